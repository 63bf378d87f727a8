use Rattle.std.proofs.Common.{◌≡◌, ◌∙◌, ◌/◌, ℕ, List, [], ◌∷◌, length, take, drop, ap, arith}
use Rattle.flt_store_model.specs.Layout.{numbers}
use Rattle.flt_store_model.specs.Image.{image_held}
use Rattle.flt_dump.specs.Copy.{copy_state}
use Rattle.flt_dump.specs.Held.{number_told}
use Rattle.flt_dump.specs.Listing.{listing_text}
use Rattle.flt_dump.specs.Reads.{dump_content}
use Rattle.flt_dump.proofs.held.look_into.Goals as goal

pub returns : goal.returns
returns c =
    let dump = c.args.dump in
    let half : length dump.pages.items / 2 ≡ dump.config.pages = omega (arith, dump.many, dump.pages.ok.0) in
    let image : (copy_state c.in_ok-copy.copy).image ≡ (dump_content dump).image = c.in_ok-copy.ensures.image ∙ ap (λ (n : ℕ). take n dump.pages.items ∷ drop n dump.pages.items ∷ []) half in
    record {
      held = c.in_ok-held.ensures ∙ ap (λ (i : List (List (List ℕ))). number_told dump.config (image_held dump.config i)) (c.in_ok-listing.ensures.image ∙ image);
      listing = c.in_ok-listing.ensures.lines ∙ (λ i. listing_text (c.config.ensures.value i).pages numbers (image i));
    }
