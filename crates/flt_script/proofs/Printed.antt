-- What a step prints is read again.
use Rattle.std.proofs.Common.{◌≡◌, ℕ, ◌<◌, ◌≤◌, ◌^◌, length, true, false, ◌&&◌, Ok, refl, ◌∙◌, arith, ltb, leb, lit<, lit≤}
use Rattle.std.specs.Prelude.{codes}
use Rattle.std.specs.Fmt.{decimal}
use Rattle.std.proofs.lemmas.Bool.{ltb-true, leb-true, and_parts}
use Rattle.flt_config.specs.declared.TheConstants.{EVENTS}
use Rattle.flt_model.specs.declared.call.Report.TheVariants.{Passed, Failed, PrePassed, PreFailed}
use Rattle.flt_script.specs.declared.keyword.Keyword.TheVariants as keyword
use Rattle.flt_script.specs.Said as line
use Rattle.flt_script.specs.declared.line.StepLine.TheVariants as written
use Rattle.flt_step.specs.declared.step.Step.TheVariants as step
use Rattle.flt_script.specs.Laws.{are_bytes, PrintedStepIsReadAgain}
use Rattle.flt_script.specs.Line.{keyword_of, report_with, two_numbers, line_with, by_words, line_of}
use Rattle.flt_script.specs.Text.{words_of, is_space_or_tab}
use Rattle.flt_script.proofs.PrintedArm.{arm_is_read}
use Rattle.flt_script.proofs.PrintedNumber.{few_digits, number-decimal, words_of-decimal, plain_digits, with_one, with_more}
use Rattle.flt_script.proofs.PrintedPost.{post_is_read}
use Rattle.flt_script.proofs.PrintedRequest.{request_is_read}

few_events : (events event : ℕ) → events ≤ EVENTS → ltb event events ≡ true → event < 10 ^ 10
few_events events event few among = let below = ltb-true event events among in omega arith

few_blocks : (block : ℕ) → ltb block 256 ≡ true → block < 10 ^ 10
few_blocks block held = let below = ltb-true block 256 held in omega arith

save_is_read : line_of (codes "save") ≡ Ok (line.Step written.Save)
unfolding line_of by_words words_of is_space_or_tab keyword_of line_with
save_is_read = refl

drain_is_read : line_of (codes "drain") ≡ Ok (line.Step written.Drain)
unfolding line_of by_words words_of is_space_or_tab keyword_of line_with
drain_is_read = refl

pub printed_step_is_read_again : PrintedStepIsReadAgain
unfolding keyword_of line_with report_with two_numbers is_space_or_tab
printed_step_is_read_again config (step.Report event Passed) few among held =
    let small = few_events (length config.events.items) event few among in (
      written.Report event Passed,
      with_one (codes "pass") refl (lit< tt) (lit≤ tt) event small keyword.Pass refl refl ∙ rw number-decimal refl,
      rw among refl,
    )
printed_step_is_read_again config (step.Report event Failed) few among held =
    let small = few_events (length config.events.items) event few among in (
      written.Report event Failed,
      with_one (codes "fail") refl (lit< tt) (lit≤ tt) event small keyword.Fail refl refl ∙ rw number-decimal refl,
      rw among refl,
    )
printed_step_is_read_again config (step.Report event PrePassed) few among held =
    let small = few_events (length config.events.items) event few among in (
      written.Report event PrePassed,
      with_one (codes "prepass") refl (lit< tt) (lit≤ tt) event small keyword.PrePass refl refl ∙ rw number-decimal refl,
      rw among refl,
    )
printed_step_is_read_again config (step.Report event PreFailed) few among held =
    let small = few_events (length config.events.items) event few among in (
      written.Report event PreFailed,
      with_one (codes "prefail") refl (lit< tt) (lit≤ tt) event small keyword.PreFail refl refl ∙ rw number-decimal refl,
      rw among refl,
    )
printed_step_is_read_again config (step.Show event) few among held =
    let small = few_events (length config.events.items) event few among in (
      written.Show event,
      with_one (codes "show") refl (lit< tt) (lit≤ tt) event small keyword.Show refl refl ∙ rw number-decimal refl,
      rw among refl,
    )
printed_step_is_read_again config (step.Cycle cycle) few among held =
    let among_four = leb-true cycle 3 among in
    let small : cycle < 10 ^ 10 = omega arith in (
      written.Cycle cycle,
      with_one (codes "cycle") refl (lit< tt) (lit≤ tt) cycle small keyword.Cycle refl refl ∙ rw number-decimal refl,
      rw among refl,
    )
printed_step_is_read_again config (step.Tick ticks) few among held =
    let held = leb-true ticks 65535 (and_parts (leb 1 ticks) (leb ticks 65535) among).1 in
    let small : ticks < 10 ^ 10 = omega arith in (
      written.Tick ticks,
      with_one (codes "tick") refl (lit< tt) (lit≤ tt) ticks small keyword.Tick refl refl ∙ rw number-decimal refl,
      rw among refl,
    )
printed_step_is_read_again config (step.Signal index value) few among held =
    let parts = and_parts (leb index 7) (leb value 65535) among in
    let low = leb-true index 7 parts.0 in
    let high = leb-true value 65535 parts.1 in
    let small_index : index < 10 ^ 10 = omega arith in
    let small_value : value < 10 ^ 10 = omega arith in
    let few_of_value : length (decimal value) ≤ 100 = omega (arith, few_digits value small_value) in (
      written.Signal index value,
      with_more (codes "sig") refl (lit< tt) (lit≤ tt) index small_index (decimal value) few_of_value (plain_digits value small_value) keyword.Signal refl refl
          ∙ rw (words_of-decimal value small_value, number-decimal index small_index, number-decimal value small_value) refl,
      rw (parts.0, parts.1) refl,
    )
printed_step_is_read_again config (step.Enable condition false) few among held =
    let low = leb-true condition 7 among in
    let small : condition < 10 ^ 10 = omega arith in
    let digit : 0 < 10 ^ 10 = omega arith in
    let few_of_value : length (decimal 0) ≤ 100 = omega (arith, few_digits 0 digit) in (
      written.Enable condition 0,
      with_more (codes "enable") refl (lit< tt) (lit≤ tt) condition small (decimal 0) few_of_value (plain_digits 0 digit) keyword.Enable refl refl
          ∙ rw (words_of-decimal 0 digit, number-decimal condition small, number-decimal 0 digit) refl,
      rw among refl,
    )
printed_step_is_read_again config (step.Enable condition true) few among held =
    let low = leb-true condition 7 among in
    let small : condition < 10 ^ 10 = omega arith in
    let digit : 1 < 10 ^ 10 = omega arith in
    let few_of_value : length (decimal 1) ≤ 100 = omega (arith, few_digits 1 digit) in (
      written.Enable condition 1,
      with_more (codes "enable") refl (lit< tt) (lit≤ tt) condition small (decimal 1) few_of_value (plain_digits 1 digit) keyword.Enable refl refl
          ∙ rw (words_of-decimal 1 digit, number-decimal condition small, number-decimal 1 digit) refl,
      rw among refl,
    )
printed_step_is_read_again config (step.Request tester bytes) few among held =
    let parts = and_parts (leb tester 3) (ltb 0 (length bytes.items)) among in
    let last = leb-true tester 3 parts.0 in
    let some = ltb-true 0 (length bytes.items) parts.1 in
    let sizes = and_parts (leb (length bytes.items) 16) (are_bytes bytes.items) held in
    let most = leb-true (length bytes.items) 16 sizes.0 in (
      written.Request tester bytes,
      request_is_read tester bytes.items last some most sizes.1,
      rw (parts.0, parts.1) refl,
    )
printed_step_is_read_again config step.Save few among held = (written.Save, save_is_read, refl)
printed_step_is_read_again config (step.Post urgent block bytes) few among held =
    let within = and_parts (ltb block config.blocks && ltb 0 (length bytes.items)) (leb (length bytes.items) 32) among in
    let parts = and_parts (ltb block config.blocks) (ltb 0 (length bytes.items)) within.0 in
    let some = ltb-true 0 (length bytes.items) parts.1 in
    let most = leb-true (length bytes.items) 32 within.1 in
    let sizes = and_parts (ltb block 256) (are_bytes bytes.items) held in (
      written.Post urgent block bytes,
      post_is_read urgent block bytes.items (few_blocks block sizes.0) some most sizes.1,
      rw (parts.0, parts.1, within.1) refl,
    )
printed_step_is_read_again config step.Drain few among held = (written.Drain, drain_is_read, refl)
printed_step_is_read_again config (step.Get block) few among held =
    let small = few_blocks block held in (
      written.Get block,
      with_one (codes "get") refl (lit< tt) (lit≤ tt) block small keyword.Get refl refl ∙ rw number-decimal refl,
      rw among refl,
    )
printed_step_is_read_again config (step.Ask block) few among held =
    let small = few_blocks block held in (
      written.Ask block,
      with_one (codes "ask") refl (lit< tt) (lit≤ tt) block small keyword.Ask refl refl ∙ rw number-decimal refl,
      rw among refl,
    )
printed_step_is_read_again config (step.Arming arm) few among held =
    let read = arm_is_read arm among in (written.Arming read.0, read.1, rw read.2 refl)
