-- Calls that touch files of some names alone, one after another.
use Rattle.std.proofs.Common.{◌≡◌, ◌≢◌, ◌⊎◌, inl, inr, ℕ, List, [], ◌∷◌, ◌++◌, refl, sym, ◌∙◌, ap, subst, Result, Ok, Err, OnOk, IsErrOf}
use Rattle.std.specs.Prelude.{Contains}
use Rattle.std.proofs.lemmas.List.Elements.{All-contains, All-from_recursion}
use Rattle.std.specs.List.{AllByRecursion}
use Rattle.std.specs.Option.{option_map}
use Rattle.bl_site.specs.Disk.{Cut, Disk, File, IsCut, IsLeft, MayLeave, Name}
use Rattle.bl_site.specs.Calls.{AppendsAny, Creates, DoneOrNot, Elapses, Frays, LeavesOnly, MayDuring, Syncs}
use Rattle.bl_site.specs.Quiet.{TellsNothing}
use Rattle.bl_site.specs.declared.site.Site.{Ghosts}
use Rattle.bl_site.specs.declared.site.SiteErr.{SiteErr}
use Rattle.bl_site.specs.declared.site.SiteErr.TheVariants.{DiskFailed, OutOfMemory, TellFailed}
use Rattle.bl_site.proofs.Moments.{certain_call, cut_of_only, joins, name_call, started, widened}
use Rattle.bl_out.specs.Quiet.{IsCutBut, IsNoneOf, TouchesOnly}

-- the files of all other names are as they were
abbrev pub OthersStay : List Name → Disk → Disk → Type 0
OthersStay names old new = (name : Name) → IsNoneOf names name → new name ≡ old name

pub not_the_one : (name other : Name) → IsNoneOf (name ∷ []) other → other ≢ name
not_the_one name other n = λ same. n.0 (sym same)

-- what a cut leaves of the new disk, it leaves of the old one
pub elsewhere : (names : List Name) (old new : Disk) (told : List ℕ) (c : Cut) → OthersStay names old new → IsCutBut names new told c → IsCutBut names old told c
elsewhere names old new told c others cut = record {
  image = λ name n. subst (λ o. IsLeft o (c.folder name)) (others name n) (cut.image name n);
  told_is = cut.told_is;
  written_is = λ name n. cut.written_is name n ∙ ap (option_map (λ (x : File). x.front ++ x.handed)) (others name n);
}

-- a cut of the whole disk
pub of_cut : (names : List Name) (disk : Disk) (told : List ℕ) (c : Cut) → IsCut disk told c → IsCutBut names disk told c
of_cut names disk told c cut = record { image = λ name n. cut.image name; told_is = cut.told_is; written_is = λ name n. cut.written_is name }

more_names : (few many : List Name) (disk : Disk) (told : List ℕ) (c : Cut) → ((name : Name) → IsNoneOf many name → IsNoneOf few name) → IsCutBut few disk told c → IsCutBut many disk told c
more_names few many disk told c less cut = record { image = λ name n. cut.image name (less name n); told_is = cut.told_is; written_is = λ name n. cut.written_is name (less name n) }

-- a name that is none of many is none of some among them
pub none_of_fewer : (few many : List Name) → AllByRecursion (Contains many) few → (name : Name) → IsNoneOf many name → IsNoneOf few name
none_of_fewer [] many among name n = tt
none_of_fewer (x ∷ few) many among name n =
    (All-contains (λ m. m ≢ name) many x (All-from_recursion (λ m. m ≢ name) many n) among.0, none_of_fewer few many among.1 name n)

-- ---- which files the calls of a site change

pub append_stays : (name : Name) (bytes : List ℕ) (old new : Disk) → (new ≡ old) ⊎ AppendsAny name bytes old new → OthersStay (name ∷ []) old new
append_stays name bytes old new (inl same) other n = ap (λ (d : Disk). d other) same
append_stays name bytes old new (inr some) other n = some.appends.puts.others other (not_the_one name other n)

pub sync_stays : (name : Name) (old new : Disk) → (new ≡ old) ⊎ (Syncs name old new ⊎ Frays name old new) → OthersStay (name ∷ []) old new
sync_stays name old new (inl same) other n = ap (λ (d : Disk). d other) same
sync_stays name old new (inr (inl s)) other n = s.puts.others other (not_the_one name other n)
sync_stays name old new (inr (inr f)) other n = f.puts.others other (not_the_one name other n)

pub create_stays : (name : Name) (old new : Disk) → DoneOrNot (Creates name) old new → OthersStay (name ∷ []) old new
create_stays name old new (inl same) other n = ap (λ (d : Disk). d other) same
create_stays name old new (inr made) other n = made.others other (not_the_one name other n)

-- how a call of `create` has gone
pub create_outcome : (name : Name) (old new : Disk) (result : Result (Unit {0}) SiteErr) → OnOk result (Creates name old new) → (IsErrOf result DiskFailed → DoneOrNot (Creates name) old new)
    → (IsErrOf result OutOfMemory → new ≡ old) → (IsErrOf result TellFailed → ⊥) → DoneOrNot (Creates name) old new
create_outcome name old new (Ok x) done failed memory not_tell = inr done
create_outcome name old new (Err DiskFailed) done failed memory not_tell = failed refl
create_outcome name old new (Err OutOfMemory) done failed memory not_tell = inl (memory refl)
create_outcome name old new (Err TellFailed) done failed memory not_tell = absurd (not_tell refl)

-- names of which every name is none are none
none_of_none : (names : List Name) → ((name : Name) → IsNoneOf names name) → names ≡ []
none_of_none [] each = refl
none_of_none (n ∷ more) each = absurd ((each n).0 refl)

some_names : (first : Name) (more : List Name) → (first ∷ more ≡ []) → ⊥
some_names first more is = cc is

-- ---- what a cut leaves

module _ {S : Type 0} (g : Ghosts S) where
  -- what a site's laws say of one of its states
  abbrev pub IsOnly : S → Type 0
  IsOnly site = (other : Disk) → g.certain site → g.may_be site other → other ≡ g.disk site

  abbrev pub IsNow : S → Type 0
  IsNow site = (c : Cut) → g.left_since site (g.clock site) c → MayLeave (g.may_be site) (g.told site) c

  before_all : (names : List Name) (old : S) → g.certain old → IsOnly old → IsNow old → LeavesOnly g.clock g.left_since old old (IsCutBut names (g.disk old) (g.told old))
  before_all names old sure only now =
      started g.clock g.left_since old (IsCutBut names (g.disk old) (g.told old))
      (λ c left. of_cut names (g.disk old) (g.told old) c (cut_of_only (g.may_be old) (g.disk old) (g.told old) c (λ d may. only d sure may) (now c left)))

  -- no call
  pub touches_nothing : (names : List Name) (site : S) → (g.shows → IsOnly site) → (g.shows → IsNow site) → TouchesOnly g names site site
  touches_nothing names site only now = record { others = λ shown name n. refl; idle = λ none. refl; cuts = λ shown sure. before_all names site sure (only shown) (now shown) }

  -- one call behind which no name call is in doubt
  pub touches_once : (first : Name) (more : List Name) (old new : S) → (g.shows → OthersStay (first ∷ more) (g.disk old) (g.disk new)) → (g.shows → g.certain old → g.certain new) → (g.shows → g.told new ≡ g.told old)
      → (g.shows → Elapses (g.clock old) (g.clock new) (g.left_since old) (g.left_since new) (MayLeave (g.may_be new) (g.told new)))
      → (g.shows → IsOnly old) → (g.shows → IsOnly new) → (g.shows → IsNow old) → TouchesOnly g (first ∷ more) old new
  touches_once first more old new others stays same time only_old only_new now = let names = first ∷ more in record {
    others = others;
    idle = λ none. absurd (some_names first more none);
    cuts = λ shown sure.
        certain_call g.clock g.left_since g.disk g.told g.may_be old old new (IsCutBut names (g.disk old) (g.told old))
        (before_all names old sure (only_old shown) (now shown)) (time shown) (λ d may. only_new shown d (stays shown sure) may)
        (λ c cut. elsewhere names (g.disk old) (g.disk new) (g.told old) c (others shown) (subst (λ (t : List ℕ). IsCutBut names (g.disk new) t c) (same shown) (of_cut names (g.disk new) (g.told new) c cut)));
  }

  -- one name call
  pub touches_named : (call : Disk → Disk → Type 0) (first : Name) (more : List Name) (old new : S) → (g.shows → OthersStay (first ∷ more) (g.disk old) (g.disk new)) → ((from to : Disk) → call from to → OthersStay (first ∷ more) from to)
      → (g.shows → Elapses (g.clock old) (g.clock new) (g.left_since old) (g.left_since new) (MayLeave (MayDuring call (g.may_be old)) (g.told old)))
      → (g.shows → IsOnly old) → (g.shows → IsNow old) → TouchesOnly g (first ∷ more) old new
  touches_named call first more old new others done time only now = let names = first ∷ more in record {
    others = others;
    idle = λ none. absurd (some_names first more none);
    cuts = λ shown sure.
        name_call g.clock g.left_since g.disk g.told g.may_be call old old new (IsCutBut names (g.disk old) (g.told old))
        (before_all names old sure (only shown) (now shown)) (time shown) (λ d may. only shown d sure may)
        (λ c cut. of_cut names (g.disk old) (g.told old) c cut)
        (λ after c called cut. elsewhere names (g.disk old) after (g.told old) c (done (g.disk old) after called) (of_cut names after (g.told old) c cut));
  }

  -- one call after another; between them no name call is in doubt
  pub touches_join : (names : List Name) (old mid new : S) → TouchesOnly g names old mid → (g.shows → g.certain old → g.certain mid) → TellsNothing g old mid → TouchesOnly g names mid new → TouchesOnly g names old new
  touches_join names old mid new first stays silent second = record {
    others = λ shown name n. second.others shown name n ∙ first.others shown name n;
    idle = λ none. second.idle none ∙ first.idle none;
    cuts = λ shown sure.
        joins g.clock g.left_since old mid new (IsCutBut names (g.disk old) (g.told old)) (first.cuts shown sure)
        (widened g.clock g.left_since mid new (IsCutBut names (g.disk mid) (g.told mid)) (IsCutBut names (g.disk old) (g.told old))
        (λ c cut. elsewhere names (g.disk old) (g.disk mid) (g.told old) c (first.others shown) (subst (λ (t : List ℕ). IsCutBut names (g.disk mid) t c) (silent.told shown) cut))
        (second.cuts shown (stays shown sure)));
  }

  -- more names may be touched
  pub touches_more : (few many : List Name) (old new : S) → ((name : Name) → IsNoneOf many name → IsNoneOf few name) → TouchesOnly g few old new → TouchesOnly g many old new
  touches_more few many old new less touches = record {
    others = λ shown name n. touches.others shown name (less name n);
    idle = λ none. touches.idle (none_of_none few (λ name. less name (subst (λ (ns : List Name). IsNoneOf ns name) (sym none) tt)));
    cuts = λ shown sure.
        widened g.clock g.left_since old new (IsCutBut few (g.disk old) (g.told old)) (IsCutBut many (g.disk old) (g.told old))
        (λ c cut. more_names few many (g.disk old) (g.told old) c less cut) (touches.cuts shown sure);
  }
