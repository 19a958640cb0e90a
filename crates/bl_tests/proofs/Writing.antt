-- An output as it begins.
use Rattle.std.proofs.Common.{◌≡◌, ℕ, zero, suc, ◌-◌, false, Bool, List, [], ◌∷◌, Option, None, Some, refl, sym, subst}
use Rattle.std.specs.Prelude.{drop}
use Rattle.std.specs.List.{AllByRecursion}
use Rattle.bl_site.specs.Disk.{Disk}
use Rattle.bl_edit.specs.Options.{Values}
use Rattle.bl_edit.specs.declared.edit.BlobAddition.{BlobAddition}
use Rattle.bl_edit.specs.declared.edit.NewTable.{NewTable}
use Rattle.bl_out.specs.Outputs.{begun}
use Rattle.bl_out.specs.States.{AreBlobs, AreTables, AreThere, BlobHand, Hand, IsOut, State}
use Rattle.bl_tests.specs.Writing.{CanAdd}

no_tables : (ns : List NewTable) (h : Option Hand) → AreTables [] ns h → (ns ≡ []) × (h ≡ None)
no_tables [] None a = (refl, refl)
no_tables [] (Some h) a = absurd a
no_tables (n ∷ ns) h a = absurd a

no_blobs : (ns : List BlobAddition) (h : Option BlobHand) → AreBlobs [] ns h → (ns ≡ []) × (h ≡ None)
no_blobs [] None a = (refl, refl)
no_blobs [] (Some h) a = absurd a
no_blobs (n ∷ ns) h a = absurd a

drops_nothing : {A : Type 0} (P : A → Type 0) (k : ℕ) → AllByRecursion P (drop k [])
drops_nothing P zero = tt
drops_nothing P (suc k) = tt

pub begins : (disk : Disk) (options : Values) (one : Bool) (s : State) → IsOut (begun options one) s → s.failed ≡ false → CanAdd disk s
begins disk options one s out usable =
    let t = no_tables s.tables s.table out.tables in
    let b = no_blobs s.blobs s.blob out.blobs in
    record {
      sealing = record {
        usable = usable;
        there = subst (λ (h : Option Hand). AreThere disk (record s { table = h })) (sym t.1)
            (subst (λ (h : Option BlobHand). AreThere disk (record s { table = None; blob = h })) (sym b.1)
            (subst (λ (ns : List NewTable). AreThere disk (record s { table = None; blob = None; tables = ns })) (sym t.0)
            (subst (λ (ns : List BlobAddition). AreThere disk (record s { table = None; blob = None; tables = []; blobs = ns })) (sym b.0)
            (tt, tt, drops_nothing _ s.sealed, drops_nothing _ (s.sealed - 0)))));
      };
      unsealed = sym out.sealed;
      out = (begun options one, out);
    }
