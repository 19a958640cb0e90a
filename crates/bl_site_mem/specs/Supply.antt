-- What a source in memory has left, and what a call of it takes.
use Rattle.std.specs.Prelude.{ℕ, ◌+◌, ◌-◌, ◌^◌, ◌==◌, min, Bool, List, length, drop}
use Rattle.std.specs.List.{list_any}
use Rattle.bl_site.specs.Causes.{one_more}

pub record Supply : Type 0 where
  pub left : List ℕ
  -- the most bytes that a call hands out
  pub piece : ℕ
  -- the numbers of the calls that fail, counted from 1
  pub failing : List ℕ
  pub calls : ℕ
  pub taken : ℕ
  pub faults : ℕ

-- a source as it starts
abbrev pub supply_of : List ℕ → ℕ → List ℕ → Supply
supply_of bytes piece failing = record { left = bytes; piece = piece; failing = failing; calls = 0; taken = 0; faults = 0 }

-- whether the next call fails
abbrev pub fails_now : Supply → Bool
fails_now supply = list_any (λ number. one_more supply.calls == number) supply.failing

-- how many bytes the next call hands out to a buffer of this length
abbrev pub portion : ℕ → Supply → ℕ
portion room supply = min room (min supply.piece (length supply.left))

abbrev pub after_handing : ℕ → Supply → Supply
after_handing count supply = record {
  left = drop count supply.left;
  piece = supply.piece;
  failing = supply.failing;
  calls = one_more supply.calls;
  taken = min (supply.taken + count) (2 ^ 64 - 1);
  faults = supply.faults;
}

abbrev pub after_failing : Supply → Supply
after_failing supply = record {
  left = supply.left;
  piece = supply.piece;
  failing = supply.failing;
  calls = one_more supply.calls;
  taken = supply.taken;
  faults = one_more supply.faults;
}
