-- Operations of a batch, word by word.
use Rattle.std.proofs.Common.{◌≡◌, ℕ, true, false, List, [], ◌∷◌, ◌++◌, Option, None, Some, refl, sym, ◌∙◌, ap, append_assoc, append-nil}
use Rattle.std.specs.Option.{option_map}
use Rattle.std.specs.Prelude.{codes, option_and_then}
use Rattle.percent_encoding.specs.Percent.{percent_decode}
use Rattle.bl_script.specs.declared.command.Operation.{Operation}
use Rattle.bl_script.specs.declared.command.Operation.TheVariants as op
use Rattle.bl_script.specs.declared.command.Command.TheVariants.{Batch}
use Rattle.bl_script.specs.Parsing.{is, value, operations, batch_of}

then_map : (o : Option (List Operation)) (x : Operation) → option_and_then (λ more. Some (x ∷ more)) o ≡ option_map (λ more. x ∷ more) o
then_map None x = refl
then_map (Some more) x = refl

pub verb_alone : (verb : List ℕ) (ws : List (List ℕ)) → ws ≡ [] → operations (verb ∷ ws) ≡ None
unfolding operations
verb_alone verb ws none = rw none refl

del_read : (verb key : List ℕ) (more : List (List ℕ)) → is verb (codes "del") ≡ true
    → operations (verb ∷ key ∷ more) ≡ option_map (λ os. op.Del (percent_decode key) ∷ os) (operations more)
unfolding operations
del_read verb key [] yes_ = rw yes_ refl
del_read verb key (w ∷ ws) yes_ = rw yes_ (then_map (operations (w ∷ ws)) (op.Del (percent_decode key)))

pub del_first : (verb word key : List ℕ) (ws more : List (List ℕ)) → ws ≡ word ∷ more → is verb (codes "del") ≡ true → key ≡ percent_decode word
    → operations (verb ∷ ws) ≡ option_map (λ os. op.Del key ∷ os) (operations more)
del_first verb word key ws more e yes_ decoded =
    ap (λ l. operations (verb ∷ l)) e ∙ del_read verb word more yes_ ∙ ap (λ k. option_map (λ os. op.Del k ∷ os) (operations more)) (sym decoded)

other_read : (verb key : List ℕ) (more : List (List ℕ)) → is verb (codes "del") ≡ false → is verb (codes "put") ≡ false → operations (verb ∷ key ∷ more) ≡ None
unfolding operations
other_read verb key [] del put = rw del refl
other_read verb key (w ∷ ws) del put = rw (del, put) refl

pub other_first : (verb key : List ℕ) (ws more : List (List ℕ)) → ws ≡ key ∷ more → is verb (codes "del") ≡ false → is verb (codes "put") ≡ false → operations (verb ∷ ws) ≡ None
other_first verb key ws more e del put = ap (λ l. operations (verb ∷ l)) e ∙ other_read verb key more del put

key_alone : (verb key : List ℕ) → is verb (codes "del") ≡ false → operations (verb ∷ key ∷ []) ≡ None
unfolding operations
key_alone verb key del = rw del refl

pub put_alone : (verb key : List ℕ) (ws more : List (List ℕ)) → ws ≡ key ∷ more → more ≡ [] → is verb (codes "del") ≡ false → operations (verb ∷ ws) ≡ None
put_alone verb key ws more e none del = ap (λ l. operations (verb ∷ l)) (e ∙ ap (λ m. key ∷ m) none) ∙ key_alone verb key del

put_read : (verb key third : List ℕ) (rest : List (List ℕ)) → is verb (codes "del") ≡ false → is verb (codes "put") ≡ true
    → operations (verb ∷ key ∷ third ∷ rest) ≡ option_and_then (λ v. option_and_then (λ more. Some (op.Put (percent_decode key) v ∷ more)) (operations rest)) (value third)
unfolding operations
put_read verb key third rest del put = rw (del, put) refl

here : (verb key third : List ℕ) (ws more rest : List (List ℕ)) → ws ≡ key ∷ more → more ≡ third ∷ rest → is verb (codes "del") ≡ false → is verb (codes "put") ≡ true
    → operations (verb ∷ ws) ≡ option_and_then (λ v. option_and_then (λ more. Some (op.Put (percent_decode key) v ∷ more)) (operations rest)) (value third)
here verb key third ws more rest e f del put = ap (λ l. operations (verb ∷ l)) (e ∙ ap (λ m. key ∷ m) f) ∙ put_read verb key third rest del put

pub no_value : (verb key third : List ℕ) (ws more rest : List (List ℕ)) → ws ≡ key ∷ more → more ≡ third ∷ rest → is verb (codes "del") ≡ false → is verb (codes "put") ≡ true
    → None ≡ value third → operations (verb ∷ ws) ≡ None
no_value verb key third ws more rest e f del put none =
    here verb key third ws more rest e f del put ∙ ap (λ o. option_and_then (λ v. option_and_then (λ more. Some (op.Put (percent_decode key) v ∷ more)) (operations rest)) o) (sym none)

pub put_first : (verb word third v key : List ℕ) (ws more rest : List (List ℕ)) → ws ≡ word ∷ more → more ≡ third ∷ rest → is verb (codes "del") ≡ false → is verb (codes "put") ≡ true
    → Some v ≡ value third → key ≡ percent_decode word → operations (verb ∷ ws) ≡ option_map (λ os. op.Put key v ∷ os) (operations rest)
put_first verb word third v key ws more rest e f del put some decoded =
    here verb word third ws more rest e f del put
    ∙ ap (λ o. option_and_then (λ w. option_and_then (λ more. Some (op.Put (percent_decode word) w ∷ more)) (operations rest)) o) (sym some)
    ∙ then_map (operations rest) (op.Put (percent_decode word) v)
    ∙ ap (λ k. option_map (λ os. op.Put k v ∷ os) (operations rest)) (sym decoded)

-- what a loop over the words has read so far
pub turn : (done : List Operation) (x : Operation) (ws next : List (List ℕ)) (all : Option (List Operation))
    → all ≡ option_map (λ os. done ++ os) (operations ws) → operations ws ≡ option_map (λ os. x ∷ os) (operations next)
    → all ≡ option_map (λ os. (done ++ x ∷ []) ++ os) (operations next)
turn done x ws next all so_far one = so_far ∙ ap (λ o. option_map (λ os. done ++ os) o) one ∙ joins (operations next)
  where
    joins : (o : Option (List Operation)) → option_map (λ os. done ++ os) (option_map (λ os. x ∷ os) o) ≡ option_map (λ os. (done ++ x ∷ []) ++ os) o
    joins None = refl
    joins (Some os) = ap Some (sym (append_assoc done (x ∷ []) os))

nothing_read : operations [] ≡ Some []
unfolding operations
nothing_read = refl

pub all_read : (done : List Operation) (ws : List (List ℕ)) (all : Option (List Operation)) → all ≡ option_map (λ os. done ++ os) (operations ws) → ws ≡ [] → all ≡ Some done
all_read done ws all so_far none = so_far ∙ ap (λ l. option_map (λ os. done ++ os) (operations l)) none ∙ ap (λ o. option_map (λ os. done ++ os) o) nothing_read ∙ ap Some (append-nil done)

pub batch_is : (words : List (List ℕ)) (os : List Operation) → (words ≡ [] → ⊥) → operations words ≡ Some os → batch_of words ≡ Some (Batch os)
batch_is [] os some e = absurd (some refl)
batch_is (w ∷ ws) os some e = ap (λ o. option_and_then (λ os. Some (Batch os)) o) e

pub batch_none : (words : List (List ℕ)) → operations words ≡ None → batch_of words ≡ None
batch_none [] e = refl
batch_none (w ∷ ws) e = ap (λ o. option_and_then (λ os. Some (Batch os)) o) e

pub begun : (words : List (List ℕ)) (os : List Operation) → operations words ≡ Some os → (os ≡ [] → ⊥) → words ≡ [] → ⊥
begun words os e some none = some (let f : Some os ≡ Some [] = sym e ∙ ap operations none ∙ nothing_read in cc f)
