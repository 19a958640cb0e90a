-- How calls follow each other that only read, or that tell nothing.
use Rattle.std.proofs.Common.{refl, ◌∙◌, subst, ⊎_elim, inl, inr, arith}
use Rattle.bl_site.specs.Disk.{Cut, IsCut, MayLeave}
use Rattle.bl_site.specs.Quiet.{OnlyReads, TellsNothing}
use Rattle.bl_site.specs.declared.site.Site.{Ghosts}

module _ {S : Type 0} (g : Ghosts S) where
  -- no call at all
  pub reads_nothing : (site : S) → OnlyReads g site site
  reads_nothing site = record {
    stays = λ shown. record { same = refl; possible = λ d is. is; certain_stays = λ is. is };
    told = λ shown. refl;
    time = λ shown. record { later = omega arith; nothing_else = λ t c le left. inl left; keeps = λ t c le left. left };
    later = omega arith;
    tell_faults = refl;
    changes = refl;
  }

  -- one call after another
  pub reads_on : (old mid new : S) → OnlyReads g old mid → OnlyReads g mid new → OnlyReads g old new
  reads_on old mid new first second = record {
    stays = λ shown. record {
      same = (second.stays shown).same ∙ (first.stays shown).same;
      possible = λ d is. (first.stays shown).possible d ((second.stays shown).possible d is);
      certain_stays = λ is. (second.stays shown).certain_stays ((first.stays shown).certain_stays is);
    };
    told = λ shown. second.told shown ∙ first.told shown;
    time = λ shown. record {
      later = omega (arith, (first.time shown).later, (second.time shown).later);
      nothing_else = λ t c le left. ⊎_elim
          ((first.time shown).nothing_else t c le)
          (λ here. inr (earlier shown c here))
          ((second.time shown).nothing_else t c (omega (arith, le, (first.time shown).later)) left);
      keeps = λ t c le left. (second.time shown).keeps t c (omega (arith, le, (first.time shown).later)) ((first.time shown).keeps t c le left);
    };
    later = omega (arith, first.later, second.later);
    tell_faults = second.tell_faults ∙ first.tell_faults;
    changes = second.changes ∙ first.changes;
  }
    where
      earlier : g.shows → (c : Cut) → MayLeave (g.may_be mid) (g.told mid) c → MayLeave (g.may_be old) (g.told old) c
      earlier shown c here = record {
        disk = here.disk;
        possible = (first.stays shown).possible here.disk here.possible;
        is_cut = subst (λ t. IsCut here.disk t c) (first.told shown) here.is_cut;
      }

  -- a call that only reads tells nothing
  pub reading_is_silent : (old new : S) → OnlyReads g old new → TellsNothing g old new
  reading_is_silent old new reads = record { told = reads.told; later = reads.later; tell_faults = reads.tell_faults }

  pub silent_on : (old mid new : S) → TellsNothing g old mid → TellsNothing g mid new → TellsNothing g old new
  silent_on old mid new first second = record {
    told = λ shown. second.told shown ∙ first.told shown;
    later = omega (arith, first.later, second.later);
    tell_faults = second.tell_faults ∙ first.tell_faults;
  }
