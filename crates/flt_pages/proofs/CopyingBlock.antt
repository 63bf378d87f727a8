-- The current record of a block, copied after the log of the other sector.
use Rattle.std.proofs.Common.{◌≡◌, inl, inr, ◌+◌, ◌-◌, ◌<◌, ◌≤◌, ◌^◌, ℕ, Bool, true, false, List, [], get_or, length, Option, Some, None, Result, Ok, Err, refl, sym, ◌∙◌, ap, subst, arith}
use Rattle.std.specs.Prelude.{◌==◌, ◌&&◌, if◌then◌else◌, Contains, IsErr, OnOk}
use Rattle.std.proofs.lemmas.Bool.{eqb-true, eq-eqb, ne_eqb}
use Rattle.std.proofs.lemmas.List.{set-get_or, get_or_past}
use Rattle.flt_flash.specs.Image.{sector_at}
use Rattle.flt_flash.specs.Content.{Content, missing}
use Rattle.flt_flash.specs.Blocks.{byte_pages, record_pages, pages_of}
use Rattle.flt_flash.specs.State.{FlashState, HasShape, HasRisenBy}
use Rattle.flt_flash.specs.declared.flash.FlashFailed.{FlashFailed}
use Rattle.flt_flash.proofs.Following.{no_run}
use Rattle.flt_code.specs.Word.{IsWord, is_length}
use Rattle.flt_code.specs.declared.words.Word.TheVariants.{Head}
use Rattle.flt_pages.specs.declared.current.CurrentSector.{CurrentSector}
use Rattle.flt_pages.specs.declared.place.RecordPlace.{RecordPlace}
use Rattle.flt_pages.specs.LogHolds.{LogHolds, record_content, given}
use Rattle.flt_pages.specs.Live.{held_in}
use Rattle.flt_pages.specs.RecordPlace.{record_at, IsPlaceWithin, IsAt, IsPlaceOf, record_bytes_at}
use Rattle.flt_pages.proofs.Recording.{pages_on}
use Rattle.flt_pages.proofs.Telling.{new_at}
use Rattle.flt_pages.specs.Record.{KeptApart, IsWhole, RecordLeft}
use Rattle.flt_pages.specs.Recorded.{Records}
use Rattle.flt_pages.proofs.LogAppended.{whole_record}
use Rattle.flt_pages.proofs.PageBytes.{bytes_size}
use Rattle.flt_pages.proofs.Finding.{found_pages, length_most}
use Rattle.flt_pages.specs.Switch.{KeepsGates, CopiesBlock, Replaces}
use Rattle.flt_sector_model.proofs.Items.{is_among}

pub same_kept : (pages : List (List ℕ)) → KeepsGates pages pages
same_kept pages = record { size = refl; before = λ k lt. refl; behind = λ k le. refl }

left_apart : (pages after : List (List ℕ)) (page block : ℕ) (bytes : List ℕ) (valid : Bool) → RecordLeft pages after page block bytes valid → (to : ℕ) × KeptApart pages after page to
left_apart pages after page block bytes valid (inl torn) = (page + 1, torn.apart)
left_apart pages after page block bytes valid (inr (inl stood)) = (page + 2 + byte_pages (length bytes), stood.apart)
left_apart pages after page block bytes valid (inr (inr whole)) = (page + 2 + byte_pages (length bytes), whole.apart)

past_pages : (pages after : List (List ℕ)) (k : ℕ) → length after ≡ length pages → length pages ≤ k → get_or after k [] ≡ get_or pages k []
past_pages pages after k size past = get_or_past after k [] (omega (arith, size)) ∙ sym (get_or_past pages k [] past)

pub left_gates : (pages after : List (List ℕ)) (page block : ℕ) (bytes : List ℕ) (valid : Bool) → 2 ≤ page → RecordLeft pages after page block bytes valid → KeepsGates pages after
left_gates pages after page block bytes valid begun left =
    let apart = left_apart pages after page block bytes valid left in
    record { size = apart.1.size; before = λ k lt. apart.1.before k (omega arith); behind = λ k le. past_pages pages after k apart.1.size le }

module _ (at : CurrentSector) (numbers : List ℕ) (before : FlashState) (shape : HasShape before) (number end : ℕ) (begun : 2 ≤ end) (most : at.used ≤ before.pages) (fits : at.used < 2 ^ 16)
    (small : number < 2 ^ 16) (member : Contains numbers number) (room : end + pages_of (held_in at.used numbers (sector_at before.image at.sector) number) ≤ at.used) where
  in_other : 1 - at.sector < 2
  in_other = omega arith

  abbrev source : List (List ℕ)
  source = sector_at before.image at.sector

  abbrev content : Content
  content = held_in at.used numbers (sector_at before.image at.sector) number

  -- A block without a record.
  module _ (is : IsAt (sector_at before.image at.sector) at.used (held_in at.used numbers (sector_at before.image at.sector) number) None) where
    nothing : held_in at.used numbers (sector_at before.image at.sector) number ≡ missing
    nothing = is.holds

    pub block_missing : CopiesBlock before before at numbers number end (Ok end)
    block_missing = record {
      written = record {
        pages = sector_at before.image (1 - at.sector);
        on = record { image = sym (set-get_or before.image (1 - at.sector) []); wear = refl; runs = no_run before };
        gates = same_kept (sector_at before.image (1 - at.sector));
        cause = tt;
      };
      stays = λ k lt. refl;
      place = (let pages : pages_of content ≡ 0 = ap pages_of nothing in omega (arith, pages));
      holds = λ value unset holds. record { entries = holds.entries; is = holds.is; gives = λ block. holds.gives block ∙ by_test value unset block (number == block) refl };
    }
      where
        by_test : (value : ℕ → Content) → value number ≡ missing → (block : ℕ) (test : Bool) → test ≡ (number == block)
            → value block ≡ (if test then held_in at.used numbers (sector_at before.image at.sector) number else value block)
        by_test value unset block false is = refl
        by_test value unset block true is = (let one : number ≡ block = eqb-true number block (sym is) in ap value (sym one) ∙ unset ∙ sym nothing)

    -- Its place stays empty.
    pub place_empty : (places : List (Option RecordPlace)) → ((found : Option RecordPlace) → IsPlaceOf numbers places number found → IsAt (sector_at before.image at.sector) at.used (held_in at.used numbers (sector_at before.image at.sector) number) found)
        → Replaces numbers (sector_at before.image (1 - at.sector)) places places number end (held_in at.used numbers (sector_at before.image at.sector) number)
    place_empty places told = record {
      own = λ k within same. by_place (get_or places k None) (told (get_or places k None) (record { index = k; within = within; number = same; place = refl }));
      others = λ k within apart. refl;
    }
      where
        by_valid : (valid : Bool) (held : List ℕ) → ◌≡◌ {A = Content} missing (record_content valid held) → ⊥
        by_valid true held same = cc same
        by_valid false held same = cc same

        by_place : (found : Option RecordPlace) → IsAt (sector_at before.image at.sector) at.used (held_in at.used numbers (sector_at before.image at.sector) number) found
            → IsAt (sector_at before.image (1 - at.sector)) end (held_in at.used numbers (sector_at before.image at.sector) number) found
        by_place None here = record { holds = nothing; inside = tt }
        by_place (Some place) here = absurd (by_valid place.valid (record_bytes_at (sector_at before.image at.sector) place) (sym nothing ∙ here.holds))

  -- A block with a record.
  module _ (place : RecordPlace) (is : IsAt (sector_at before.image at.sector) at.used (held_in at.used numbers (sector_at before.image at.sector) number) (Some place)) where
    pub within : IsPlaceWithin at.used place
    within = is.inside.within

    size : length (record_bytes_at (sector_at before.image at.sector) place) ≡ place.length
    size = bytes_size source (shape.bytes at.sector at.one_of_two) (record_at 0 place) (omega (arith, within.below, most, shape.pages at.sector at.one_of_two))

    pub content_size : pages_of (held_in at.used numbers (sector_at before.image at.sector) number) ≡ record_pages place.length
    content_size = ap pages_of is.holds ∙ found_pages at.used source (shape.bytes at.sector at.one_of_two) (omega (arith, most, shape.pages at.sector at.one_of_two)) number (Some place) within

    pub place_room : end + record_pages place.length ≤ at.used
    place_room = omega (arith, room, content_size)

    kind : is_length place.valid (length (record_bytes_at (sector_at before.image at.sector) place)) ≡ true
    kind = ap (is_length place.valid) size ∙ within.kind

    module _ (after : FlashState) (result : Result (Unit {0}) FlashFailed) (does : Records before after (1 - at.sector) end number (record_bytes_at (sector_at before.image at.sector) place) place.valid result) where
      gates_of_both : KeepsGates (sector_at before.image (1 - at.sector)) does.pages
      gates_of_both = left_gates (sector_at before.image (1 - at.sector)) does.pages end number (record_bytes_at (sector_at before.image at.sector) place) place.valid begun does.one_of_forms

      stays_below : (k : ℕ) → k < end → get_or does.pages k [] ≡ get_or (sector_at before.image (1 - at.sector)) k []
      stays_below k lt = (left_apart (sector_at before.image (1 - at.sector)) does.pages end number (record_bytes_at (sector_at before.image at.sector) place) place.valid does.one_of_forms).1.before k lt

      pub block_torn : (told : Result ℕ FlashFailed) → IsErr told → HasRisenBy 1 before.faults after.faults → CopiesBlock before after at numbers number end told
      block_torn (Ok x) fails rose = absurd (cc fails)
      block_torn (Err e) fails rose =
          record { written = record { pages = does.pages; on = does.on; gates = gates_of_both; cause = rose }; stays = stays_below; place = tt; holds = tt }

      module _ (last : ℕ) (ok : result ≡ Ok tt) (ends : last ≡ end + (2 + byte_pages place.length)) where
        whole : IsWhole (sector_at before.image (1 - at.sector)) does.pages end number (record_bytes_at (sector_at before.image at.sector) place) place.valid
        whole = subst (λ (r : Result (Unit {0}) FlashFailed). OnOk r (IsWhole (sector_at before.image (1 - at.sector)) does.pages end number (record_bytes_at (sector_at before.image at.sector) place) place.valid)) ok does.whole

        far : end + (2 + byte_pages (length (record_bytes_at (sector_at before.image at.sector) place))) ≡ last
        far = omega (arith, size, ends)

        pub block_copied : CopiesBlock before after at numbers number end (Ok last)
        block_copied =
            let short = length_most place.valid place.length within.kind in
            let proper : IsWord (Head number (length (record_bytes_at (sector_at before.image at.sector) place)) place.valid end) = (small, omega (arith, size, short), omega (arith, place_room, fits), kind) in
            record {
              written = record { pages = does.pages; on = does.on; gates = gates_of_both; cause = tt };
              stays = stays_below;
              place = omega (arith, ends, content_size);
              holds = λ value unset holds.
                  subst (λ (c : Content). LogHolds at.used numbers does.pages last (given number c value)) (sym is.holds)
                  (subst (λ n. LogHolds at.used numbers does.pages n (given number (record_content place.valid (record_bytes_at (sector_at before.image at.sector) place)) value)) far
                  (whole_record at.used numbers (sector_at before.image (1 - at.sector)) does.pages end value at.least holds number (record_bytes_at (sector_at before.image at.sector) place) place.valid proper (proper.0, proper.2)
                  (is_among numbers number member) (omega (arith, size, place_room)) whole));
            }

        -- Its place is that of the copy.
        pub place_moved : (places now : List (Option RecordPlace))
            → ((k : ℕ) → k < length numbers → get_or now k None ≡ (if true && (number == get_or numbers k 0) then Some (record { page = end; length = place.length; valid = place.valid }) else get_or places k None))
            → Replaces numbers (sector_at after.image (1 - at.sector)) places now number last (held_in at.used numbers (sector_at before.image at.sector) number)
        place_moved places now noted = record {
          own = λ k inside same.
              subst (λ (found : Option RecordPlace). IsAt (sector_at after.image (1 - at.sector)) last (held_in at.used numbers (sector_at before.image at.sector) number) found)
              (sym (noted k inside ∙ ap (λ (test : Bool). if test then Some (record { page = end; length = place.length; valid = place.valid }) else get_or places k None) (eq-eqb number (get_or numbers k 0) (sym same)))) copy_at;
          others = λ k inside apart. noted k inside ∙ ap (λ (test : Bool). if test then Some (record { page = end; length = place.length; valid = place.valid }) else get_or places k None) (ne_eqb number (get_or numbers k 0) (λ e. apart (sym e)));
        }
          where
            there : sector_at after.image (1 - at.sector) ≡ does.pages
            there = pages_on before after (1 - at.sector) does.pages shape in_other does.on

            copy_at : IsAt (sector_at after.image (1 - at.sector)) last (held_in at.used numbers (sector_at before.image at.sector) number) (Some (record { page = end; length = place.length; valid = place.valid }))
            copy_at =
                subst (λ (pages : List (List ℕ)). IsAt pages last (held_in at.used numbers (sector_at before.image at.sector) number) (Some (record { page = end; length = place.length; valid = place.valid }))) (sym there)
                (subst (λ n. IsAt does.pages last (held_in at.used numbers (sector_at before.image at.sector) number) (Some (record { page = end; length = n; valid = place.valid }))) size
                (subst (λ (c : Content). IsAt does.pages last c (Some (record { page = end; length = length (record_bytes_at (sector_at before.image at.sector) place); valid = place.valid }))) (sym is.holds)
                (subst (λ n. IsAt does.pages n (record_content place.valid (record_bytes_at (sector_at before.image at.sector) place)) (Some (record { page = end; length = length (record_bytes_at (sector_at before.image at.sector) place); valid = place.valid }))) far
                (new_at (sector_at before.image (1 - at.sector)) does.pages end number (record_bytes_at (sector_at before.image at.sector) place) place.valid begun kind whole))))
