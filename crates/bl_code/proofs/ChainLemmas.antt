-- A reader of a format goes on from one part to the next. Here is what is known of the parts where it answers Ok.
use Rattle.std.proofs.Common.{◌≡◌, Bool, true, false, Some, None, Ok, Err, refl}
use Rattle.std.specs.Prelude.{Option, Result, option_and_then}
use Rattle.bl_code.specs.Reading.{or_fault, need, ◌>>=◌}

pub then_ok : {A B E : Type 0} (r : Result A E) (f : A → Result B E) (y : B) → r >>= f ≡ Ok y → (x : A) × (r ≡ Ok x) × (f x ≡ Ok y)
then_ok (Ok x) f y h = (x, refl, h)
then_ok (Err e) f y h = cc

pub or_fault_ok : {A E : Type 0} (e : E) (o : Option A) (x : A) → or_fault e o ≡ Ok x → o ≡ Some x
or_fault_ok e None x h = cc
or_fault_ok e (Some y) x h = let same : y ≡ x = cc in λ i. Some (same i)

pub need_ok : {E : Type 0} (b : Bool) (e : E) (u : Unit {0}) → need b e ≡ Ok u → b ≡ true
need_ok true e u h = refl
need_ok false e u h = cc

-- the value of a reading that goes on from another
pub read_ok : {A B : Type 0} (o : Option A) (f : A → Option B) (y : B) → option_and_then f o ≡ Some y → (x : A) × (o ≡ Some x) × (f x ≡ Some y)
read_ok None f y h = cc
read_ok (Some x) f y h = (x, refl, h)
