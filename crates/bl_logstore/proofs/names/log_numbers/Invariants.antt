use Rattle.std.proofs.Common.{map, string_bytes}
use Rattle.std.specs.Option.{option_map}
use Rattle.bl_logstore.specs.Listing.{AreLogNumbers}
use Rattle.bl_logstore.proofs.NameLemmas.{First}
use Rattle.bl_logstore.proofs.names.log_numbers.Given as goal

abbrev pub invariant-loop-name : goal.invariant-loop-name
invariant-loop-name l =
    let names = map string_bytes l.names in
    record {
      logs : AreLogNumbers l.name-index names l.numbers.keys;
      first : First l.name-index names (option_map (λ m. string_bytes m.now) l.first);
    }
