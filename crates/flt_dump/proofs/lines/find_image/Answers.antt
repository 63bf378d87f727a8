use Rattle.std.proofs.Common.{◌≡◌, ◌∙◌, ◌+◌, ◌-◌, ℕ, true, false, Some, None, sym, ap, drop, take, arith}
use Rattle.std.specs.List.{position}
use Rattle.std.specs.Str.Lines.{strip_carriage_return}
use Rattle.std.proofs.lemmas.List.{take_rest}
use Rattle.flt_dump.specs.Dump.{is_image}
use Rattle.flt_dump.proofs.Passed.{is_feed, passed_none, passes_line, is_line, is_last_line, no_line}
use Rattle.flt_dump.proofs.lines.find_image.Goals as goal

pub loop-end-init : goal.loop-end-init
loop-end-init c = passed_none c.args.bytes.now

pub loop-end-preserved : goal.loop-end-preserved
loop-end-preserved c =
    let bytes = c.args.bytes.now in
    let from = c.loop-end.from in
    let feed : position is_feed (drop from bytes) ≡ Some c.in-Some.end = sym (c.in-Some.ensures ∙ ap (position is_feed) (take_rest bytes from)) in
    let same : from + c.in-Some.end - from ≡ c.in-Some.end = omega arith in
    let other : is_image (strip_carriage_return (take c.in-Some.end (drop from bytes))) ≡ false =
    sym (c.if-is_image.ensures ∙ ap is_image (c.without_return.ensures ∙ ap (λ (n : ℕ). strip_carriage_return (take n (drop from bytes))) same)) in
    passes_line bytes from c.loop-end.before c.loop-end.invariant c.in-Some.end feed other

pub returns-then-is_image-clause-found : goal.returns-then-is_image-clause-found
returns-then-is_image-clause-found c =
    let bytes = c.args.bytes.now in
    let from = c.loop-end.from in
    let feed : position is_feed (drop from bytes) ≡ Some c.in-Some.end = sym (c.in-Some.ensures ∙ ap (position is_feed) (take_rest bytes from)) in
    let same : from + c.in-Some.end - from ≡ c.in-Some.end = omega arith in
    let is : is_image (strip_carriage_return (take c.in-Some.end (drop from bytes))) ≡ true =
    sym (c.if-is_image.ensures ∙ ap is_image (c.without_return.ensures ∙ ap (λ (n : ℕ). strip_carriage_return (take n (drop from bytes))) same)) in
    is_line bytes from c.loop-end.before c.loop-end.invariant c.in-Some.end feed is

pub returns-then-is_image-2-clause-found : goal.returns-then-is_image-2-clause-found
returns-then-is_image-2-clause-found c =
    let bytes = c.args.bytes.now in
    let from = c.loop-end.from in
    let no_feed : position is_feed (drop from bytes) ≡ None = sym (c.in_default.ensures ∙ ap (position is_feed) (take_rest bytes from)) in
    let is : is_image (drop from bytes) ≡ true = sym (c.if-is_image-2.ensures ∙ ap is_image (take_rest bytes from)) in
    is_last_line bytes from c.loop-end.before c.loop-end.invariant no_feed is

pub returns-clause-none : goal.returns-clause-none
returns-clause-none c =
    let bytes = c.args.bytes.now in
    let from = c.loop-end.from in
    let no_feed : position is_feed (drop from bytes) ≡ None = sym (c.in_default.ensures ∙ ap (position is_feed) (take_rest bytes from)) in
    let other : is_image (drop from bytes) ≡ false = sym (c.if-is_image-2.ensures ∙ ap is_image (take_rest bytes from)) in
    no_line bytes from c.loop-end.before c.loop-end.invariant no_feed other
