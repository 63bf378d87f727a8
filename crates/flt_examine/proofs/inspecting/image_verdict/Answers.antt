use Rattle.std.proofs.Common.{◌≡◌, ◌∙◌, ℕ, List, [], ◌∷◌, ◌++◌, sym, ap}
use Rattle.flt_store_model.specs.Layout.{numbers}
use Rattle.flt_report.specs.Boot.{boot_text}
use Rattle.flt_store_model.specs.Image.{image_held}
use Rattle.flt_dump.specs.Listing.{listing_text}
use Rattle.flt_dump.specs.Reads.{dump_content}
use Rattle.flt_examine.specs.Inspection.{boot_told}
use Rattle.flt_examine.proofs.Told.{never_flash}
use Rattle.flt_examine.proofs.inspecting.image_verdict.Goals as goal

pub put_held-requires : goal.put_held-requires
put_held-requires c =
    let dump = dump_content c.args.dump in
    λ flash. never_flash dump.config (image_held dump.config dump.image) (sym c.in_ok-held.ensures.held ∙ flash)

pub returns : goal.returns
returns c =
    let dump = dump_content c.args.dump in
    let judged = image_held dump.config dump.image in
    let told = c.in_ok-status.ensures dump.config judged c.in_ok-held.ensures.held in
    let first = boot_text (boot_told dump.config judged) in
    let lines = listing_text dump.config.pages numbers dump.image in
    let line : c.put_held.new.out.items ≡ first ++ 10 ∷ [] = told.1 ∙ ap (λ (l : List ℕ). l ++ first ++ 10 ∷ []) c.new-text.ensures.items in
    let rest : c.deref.result.now ≡ lines = c.deref.ensures.value ∙ c.in_ok-held.ensures.listing in
    let text : c.extend_from_slice.new.self.items ≡ first ++ 10 ∷ [] ++ lines =
    c.in_ok-extend_from_slice.ensures.items ∙ (λ i. line i ++ rest i) in
    let status = c.number.ensures ∙ told.0 in
    λ i. record { status = status i; text = text i }
