-- Records and edits, one list behind another.
use Rattle.std.proofs.Common.{◌≡◌, ℕ, zero, suc, List, [], ◌∷◌, ◌++◌, take, Option, None, Some, Result, Ok, Err, refl, sym, ◌∙◌, ap}
use Rattle.std.proofs.lemmas.List.{map-append}
use Rattle.std.specs.Prelude.{option_and_then}
use Rattle.std.specs.Result.{result_ok}
use Rattle.bl_code.specs.Reading.{◌>>=◌}
use Rattle.bl_edit.specs.Reading.{read_edit}
use Rattle.bl_edit.specs.declared.edit.Edit.{Edit}
use Rattle.bl_edit.specs.declared.error.BadEdit.{BadEdit}
use Rattle.bl_build.specs.declared.error.BadVersion.{BadVersion}
use Rattle.bl_build.specs.Listing.{Listing}
use Rattle.bl_build.specs.Versions.{apply, applied}
use Rattle.bl_build.specs.Restoring.{edits_of, last_given}
use Rattle.bl_manifest.specs.Restores.{payloads}

-- an edit behind which more follow
abbrev pub and_more : Option (List Edit) → Edit → Option (List Edit)
and_more more e = option_and_then (λ es. Some (e ∷ es)) more

-- what a record was read as, and those behind it
first_read : (r : Result Edit BadEdit) (more : Option (List Edit)) (all : List Edit) → option_and_then (and_more more) (result_ok r) ≡ Some all
    → (e : Edit) × (es : List Edit) × (r ≡ Ok e) × (more ≡ Some es) × (all ≡ e ∷ es)
first_read (Err fault) more all h = absurd (let wrong : None ≡ Some all = h in cc wrong)
first_read (Ok e) None all h = absurd (let wrong : None ≡ Some all = h in cc wrong)
first_read (Ok e) (Some es) all h = let same : Some (e ∷ es) ≡ Some all = h in (e, es, refl, refl, sym (cc same))

pub first_edit : (payload : List ℕ) (rest : List (List ℕ)) (all : List Edit) → edits_of (payload ∷ rest) ≡ Some all
    → (e : Edit) × (es : List Edit) × (read_edit payload ≡ Ok e) × (edits_of rest ≡ Some es) × (all ≡ e ∷ es)
first_edit payload rest all h = first_read (read_edit payload) (edits_of rest) all h

pub one_edit_more : (payload : List ℕ) (rest : List (List ℕ)) (e : Edit) (es : List Edit) → read_edit payload ≡ Ok e → edits_of rest ≡ Some es → edits_of (payload ∷ rest) ≡ Some (e ∷ es)
one_edit_more payload rest e es read are =
    ap (λ (r : Result Edit BadEdit). option_and_then (and_more (edits_of rest)) (result_ok r)) read ∙ ap (λ (o : Option (List Edit)). and_more o e) are

-- the edits of records and those of the records behind them
pub edits_join : (front back : List (List ℕ)) (es fs : List Edit) → edits_of front ≡ Some es → edits_of back ≡ Some fs → edits_of (front ++ back) ≡ Some (es ++ fs)
edits_join [] back es fs are behind =
    let same : Some [] ≡ Some es = are in
    let none : [] ≡ es = cc same in
    behind ∙ ap (λ l. Some (l ++ fs)) none
edits_join (payload ∷ front) back es fs are behind =
    let f = first_edit payload front es are in
    one_edit_more payload (front ++ back) f.0 (f.1 ++ fs) f.2 (edits_join front back f.1 fs f.3 behind) ∙ ap (λ l. Some (l ++ fs)) (sym f.4)

-- the first so many records are the first so many edits
pub edits_first : (n : ℕ) (payloads : List (List ℕ)) (es : List Edit) → edits_of payloads ≡ Some es → edits_of (take n payloads) ≡ Some (take n es)
edits_first zero payloads es are = refl
edits_first (suc n) [] es are =
    let same : Some [] ≡ Some es = are in
    let none : [] ≡ es = cc same in
    ap (λ l. Some (take (suc n) l)) none
edits_first (suc n) (payload ∷ rest) es are =
    let f = first_edit payload rest es are in
    one_edit_more payload (take n rest) f.0 (take n f.1) f.2 (edits_first n rest f.1 f.3) ∙ ap (λ l. Some (take (suc n) l)) (sym f.4)

-- one record more that is an edit
pub found_more : (found : List (List ℕ × ℕ)) (r : List ℕ × ℕ) (es : List Edit) (e : Edit) → edits_of (payloads found) ≡ Some es → read_edit r.0 ≡ Ok e
    → edits_of (payloads (found ++ r ∷ [])) ≡ Some (es ++ e ∷ [])
found_more found r es e are read =
    ap edits_of (map-append (λ (x : List ℕ × ℕ). x.0) found (r ∷ []))
    ∙ edits_join (payloads found) (r.0 ∷ []) es (e ∷ []) are (one_edit_more r.0 [] e [] read refl)

-- ---- versions

ok_is : (a b : Listing) → ◌≡◌ {A = Result Listing BadVersion} (Ok a) (Ok b) → a ≡ b
ok_is a b h = cc h

went : (r : Result Listing BadVersion) (f : Listing → Result Listing BadVersion) (v : Listing) → (r >>= f) ≡ Ok v → (next : Listing) × (r ≡ Ok next) × (f next ≡ Ok v)
went (Ok next) f v h = (next, refl, h)
went (Err why) f v h = absurd (cc h)

-- the version behind the first edit, and the rest of the way
pub first_step : (base v : Listing) (e : Edit) (es : List Edit) → applied base (e ∷ es) ≡ Ok v → (next : Listing) × (apply base e ≡ Ok next) × (applied next es ≡ Ok v)
unfolding applied
first_step base v e es h = went (apply base e) (λ next. applied next es) v h

pub none_applied : (base v : Listing) → applied base [] ≡ Ok v → base ≡ v
unfolding applied
none_applied base v h = ok_is base v h

pub applied_then : (es fs : List Edit) (base mid : Listing) → applied base es ≡ Ok mid → applied base (es ++ fs) ≡ applied mid fs
unfolding applied
applied_then [] fs base mid h = ap (λ b. applied b fs) (ok_is base mid h)
applied_then (e ∷ es) fs base mid h =
    let s = went (apply base e) (λ next. applied next es) mid h in
    ap (λ r. r >>= (λ next. applied next (es ++ fs))) s.1 ∙ applied_then es fs s.0 mid s.2

pub applied_one : (base next : Listing) (e : Edit) → apply base e ≡ Ok next → applied base (e ∷ []) ≡ Ok next
unfolding applied
applied_one base next e h = ap (λ r. r >>= (λ v. applied v [])) h

-- ---- fields

pub last_given_then : (es fs : List Edit) (known : Edit) → last_given known (es ++ fs) ≡ last_given (last_given known es) fs
last_given_then [] fs known = refl
last_given_then (e ∷ es) fs known = last_given_then es fs _
