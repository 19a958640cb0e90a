use Rattle.std.proofs.Common.{◌≡◌, Result, Ok, Err, refl, sym, ◌∙◌}
use Rattle.bl_code.specs.Reading.{◌>>=◌}
use Rattle.bl_open.specs.Options.{check_option, check_options}
use Rattle.bl_open.specs.declared.error.OpenErr.{OpenErr}
use Rattle.bl_open.proofs.options.check_options.Goals as goal

then_done : (r : Result (Unit {0}) OpenErr) → (r >>= λ passed. Ok tt) ≡ r
then_done (Ok x) = refl
then_done (Err e) = refl

-- each word before the last one passes
pub returns : goal.returns
unfolding check_options
returns c =
    let v = c.stored.inside in
    let w = c.asked.inside in
    let r1 : check_option 1 v.min_blob_size w.min_blob_size ≡ Ok tt = sym c.check_option.ensures ∙ c.in_ok-check_option.was in
    let r2 : check_option 2 v.blob_file_size w.blob_file_size ≡ Ok tt = sym c.check_option-2.ensures ∙ c.in_ok-check_option-2.was in
    let r3 : check_option 3 v.write_buffer w.write_buffer ≡ Ok tt = sym c.check_option-3.ensures ∙ c.in_ok-check_option-3.was in
    let r4 : check_option 4 v.table_size w.table_size ≡ Ok tt = sym c.check_option-4.ensures ∙ c.in_ok-check_option-4.was in
    let r5 : check_option 5 v.level0_trigger w.level0_trigger ≡ Ok tt = sym c.check_option-5.ensures ∙ c.in_ok-check_option-5.was in
    let r6 : check_option 6 v.level_base w.level_base ≡ Ok tt = sym c.check_option-6.ensures ∙ c.in_ok-check_option-6.was in
    let r7 : check_option 7 v.level_factor w.level_factor ≡ Ok tt = sym c.check_option-7.ensures ∙ c.in_ok-check_option-7.was in
    let r8 : check_option 8 v.age_cutoff w.age_cutoff ≡ Ok tt = sym c.check_option-8.ensures ∙ c.in_ok-check_option-8.was in
    rw (← c.stored.view_is, ← c.asked.view_is, r1, r2, r3, r4, r5, r6, r7, r8) (c.check_option-9.ensures ∙ sym (then_done (check_option 9 v.force_threshold w.force_threshold)))
