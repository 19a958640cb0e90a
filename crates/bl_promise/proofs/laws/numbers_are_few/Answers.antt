use Rattle.bl_promise.proofs.NumberLemmas.{flushes_are_numbered, flushes_take_few, numbers_pass, openings_are_numbered, quiet_lines_are_numbered, reopenings_are_numbered, room_within, writes_are_numbered}
use Rattle.bl_promise.proofs.laws.numbers_are_few.Goals as goal

pub returns : goal.returns
returns c = record {
  flush = flushes_take_few;
  openings = openings_are_numbered;
  writes = writes_are_numbered;
  flushes = flushes_are_numbered;
  reopenings = reopenings_are_numbered;
  quiet = quiet_lines_are_numbered;
  room = room_within;
  pass = numbers_pass;
}
