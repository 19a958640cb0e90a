-- Pairs of a store that are told one after the other.
use Rattle.std.proofs.Common.{◌≡◌, ◌++◌, refl, sym, ◌∙◌, ap, Option, None, Some, Result, Ok, Err}
use Rattle.std.specs.Prelude.{IfOk}
use Rattle.bl_site.specs.declared.site.Site.{Ghosts}
use Rattle.bl_entry.specs.Revisions.{Map}
use Rattle.bl_read.specs.Scan.{Scan}
use Rattle.bl_read.specs.Scanning.{behind_told, next_in}
use Rattle.bl_read.specs.Turns.{PairsAreToldInTurn, first_and_behind, pairs_from, told_of}
use Rattle.bl_read.specs.declared.bound.Bound.{Bound}
use Rattle.bl_read.specs.declared.pairs.Pair.{Pair}
use Rattle.bl_store.specs.Held.{now_of}
use Rattle.bl_store.specs.Reading.{GivesMap, StoresGiveTheirMap}
use Rattle.bl_store.specs.Stored.{IsInOrder, Stored}
use Rattle.bl_store.specs.Telling.{TellsInTurn, TellsNext, TellsOf}
use Rattle.bl_store.specs.declared.error.StoreErr.{StoreErr}
use Rattle.bl_store.proofs.ReadLemmas.{answers}

told_first : PairsAreToldInTurn → (m : Map) (bound : Bound) (result : Result (Option Pair) StoreErr) → IfOk result (λ found. found ≡ next_in bound m) → pairs_from bound m ≡ told_of result ++ pairs_from (behind_told bound result) m
told_first turns m bound (Ok None) is =
    refl
told_first turns m bound (Ok (Some pair)) is = turns m bound ∙ ap (λ o. first_and_behind o m) (sym is)
told_first turns m bound (Err e) is = refl

module _ (turns : PairsAreToldInTurn) (law : StoresGiveTheirMap) {S : Type 0} (g : Ghosts S) (result : Result (Option Pair) StoreErr) (s : Stored) (old new : Scan) (site after : S) (order : IsInOrder s) where
  pub tells_next : (g.shows → (m : Map) → GivesMap m s (g.disk site) → IfOk result (λ found. found ≡ next_in old.bound m)) → new.bound ≡ behind_told old.bound result → (g.shows → TellsOf s (g.disk after) new)
      → TellsNext g result s old new site after
  tells_next value bound on = record {
    answers = answers law g result s site order (next_in old.bound) value;
    given = turn;
    now = λ shown unbroken names held t. turn shown (now_of held) (law names held s (g.disk site) order unbroken t);
    goes_on = on;
  }
    where
      turn : g.shows → (m : Map) → GivesMap m s (g.disk site) → TellsInTurn result old new m
      turn shown m gives = told_first turns m old.bound result (value shown m gives) ∙ ap (λ b. told_of result ++ pairs_from b m) (sym bound)
