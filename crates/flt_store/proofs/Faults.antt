-- What a start-up judges of the blocks is never a fault of a page.
use Rattle.std.proofs.Common.{◌≡◌, ⊎_elim, ℕ, zero, suc, ◌+◌, Bool, true, false, Option, Some, None, Result, Ok, Err, refl, ◌∙◌, ap, subst, arith}
use Rattle.std.specs.Prelude.{IsTrue, IfErr, nat_le, if◌then◌else◌}
use Rattle.flt_flash.specs.Content.{Content, missing, invalid, bytes}
use Rattle.flt_flash.specs.Blocks.{BlocksState}
use Rattle.flt_flash.specs.Calls.{Follows, SameValues}
use Rattle.flt_flash.specs.declared.blocks.Blocks.{Ghosts}
use Rattle.flt_flash.specs.declared.blocks.BlockFault.{BlockFault}
use Rattle.flt_flash.specs.declared.blocks.BlockFault.TheVariants.{Flash as FlashFault, Full, SequenceSpent as Stuck, Damaged as DamagedPage}
use Rattle.flt_nvm.specs.Leaves.{MountsInAJob}
use Rattle.flt_nvm.specs.Tries.{Mounts, Tries}
use Rattle.flt_config.specs.declared.config.Config.{Config}
use Rattle.flt_config.specs.declared.persist.Persist.{Persist}
use Rattle.flt_config.specs.Validity.{needed_pages}
use Rattle.flt_store_model.specs.declared.mark.Mark.{Mark}
use Rattle.flt_store_model.specs.declared.commit.Commit.{Commit}
use Rattle.flt_store_model.specs.declared.place.Place.TheVariants.{Page, Block}
use Rattle.flt_store_model.specs.Layout.{first_commit, second_commit, mark_number, number_of, part_of_block, first_part, parts, is_used, index_in}
use Rattle.flt_store_model.specs.Form.{mark_of}
use Rattle.flt_store_model.specs.Reading.{mark_in, commit_in, taken}
use Rattle.flt_store_model.specs.Excess.{excess}
use Rattle.flt_store_model.specs.Holding.{Generation, Fault, damaged, other, damaged_at, ◌>>=◌, is_same_mark, judged_mark, marked, or_damaged, with_content, with_named, parts_read, generation_of, named, application_fault, applications_judged, excess_judged, held_by, either_copy, only_bytes}
use Rattle.flt_restore.specs.declared.fault.StartFault.{StartFault}
use Rattle.flt_restore.specs.declared.fault.StartFault.TheVariants.{Flash, Damaged, OtherConfig, SequenceSpent}
use Rattle.flt_restore.specs.Restored.{IsJudged, Refuses}
use Rattle.flt_restore.specs.Told.{start_fault_of}
use Rattle.flt_store.specs.declared.store.Store.{Store}
use Rattle.flt_store.specs.Cause.{FailsThrice}
use Rattle.flt_store.specs.Dark.{IsOfBlocks}
use Rattle.flt_store.specs.Store.{driver_of, numbered}
use Rattle.flt_store.proofs.Beginning.{judged_in, not_spent}
use Rattle.flt_store.specs.Start.{Judges, RefusedFor, Starts}

abbrev NeverPage : {A : Type 0} → Result A Fault → Type 0
NeverPage (Ok value) = Unit {0}
NeverPage (Err (damaged (Page sector page))) = ⊥
NeverPage (Err (damaged (Block id))) = Unit {0}
NeverPage (Err (other mark)) = Unit {0}

never_then : {A B : Type 0} (first : Result A Fault) (next : A → Result B Fault) → NeverPage first → ((value : A) → NeverPage (next value)) → NeverPage (first >>= next)
never_then (Ok value) next first then_ = then_ value
never_then (Err (damaged (Page sector page))) next first then_ = first
never_then (Err (damaged (Block id))) next first then_ = tt
never_then (Err (other mark)) next first then_ = tt

never_if : {A : Type 0} (test : Bool) (one two : Result A Fault) → NeverPage one → NeverPage two → NeverPage (if test then one else two)
never_if true one two first second = first
never_if false one two first second = second

never_judged : (c : Config) (read : Option Mark) → NeverPage (judged_mark c read)
never_judged c None = tt
never_judged c (Some mark) = never_if (is_same_mark mark (mark_of c)) (Ok (tt {0})) (Err (other mark)) tt tt

never_marked : (c : Config) (mark commit : Content) → NeverPage (marked c mark commit)
unfolding marked
never_marked c missing missing = tt
never_marked c missing invalid = tt
never_marked c missing (bytes raw) = tt
never_marked c invalid commit = tt
never_marked c (bytes raw) commit = never_judged c (mark_in raw)

never_or : (id : ℕ) (state : Option Persist) → NeverPage (or_damaged id state)
never_or id None = tt
never_or id (Some state) = tt

never_content : (c : Config) (id : ℕ) (content : Content) (state : Persist) → NeverPage (with_content c id content state)
never_content c id missing state = tt
never_content c id invalid state = tt
never_content c id (bytes raw) state = never_or id (taken c (part_of_block id) raw state)

never_parts : (c : Config) (value : ℕ → Content) (commit : Commit) (count : ℕ) → NeverPage (parts_read c value commit count)
unfolding parts_read
never_parts c value commit zero = tt
never_parts c value commit (suc count) =
    never_then (parts_read c value commit count) (with_named c value commit (first_part + count)) (never_parts c value commit count)
    (λ state. never_if (is_used c (first_part + count)) (with_content c (first_part + count) (value (number_of (first_part + count) (index_in commit (first_part + count)))) state) (Ok state)
    (never_content c (first_part + count) (value (number_of (first_part + count) (index_in commit (first_part + count)))) state) tt)

never_generation : (c : Config) (value : ℕ → Content) (commit : Option Commit) → NeverPage (generation_of c value commit)
never_generation c value None = tt
never_generation c value (Some commit) =
    never_then (parts_read c value commit parts) (λ state. Ok (record { number = commit.generation; state = state })) (never_parts c value commit parts) (λ state. tt)

never_named : (c : Config) (value : ℕ → Content) (commit : Content) → NeverPage (named c value commit)
unfolding named
never_named c value missing = tt
never_named c value invalid = tt
never_named c value (bytes raw) = never_generation c value (commit_in c raw)

never_application : (block : Option ℕ) → NeverPage (application_fault block)
never_application None = tt
never_application (Some block) = tt

never_excess : (c : Config) (value : ℕ → Content) → NeverPage (excess_judged c value)
unfolding excess_judged
never_excess c value = never_if (nat_le (excess c value + needed_pages c) c.pages) (Ok (tt {0})) (damaged_at 0) tt tt

never_held_by : (c : Config) (value : ℕ → Content) (commit : Content) → NeverPage (held_by c value commit)
unfolding held_by applications_judged
never_held_by c value commit =
    never_then (marked c (value mark_number) commit) _ (never_marked c (value mark_number) commit) (λ first.
    never_then (named c value commit) _ (never_named c value commit) (λ g.
    never_then (applications_judged value) _ (never_application _) (λ second.
    never_then (excess_judged c value) _ (never_excess c value) (λ third. tt))))

never_page : (c : Config) (value : ℕ → Content) (commit : Content) (sector page : ℕ) → held_by c value commit ≡ Err (damaged (Page sector page)) → ⊥
never_page c value commit sector page is = subst (λ (judged : Result Generation Fault). NeverPage judged) is (never_held_by c value commit)

pub not_at_a_page : (c : Config) (before after : BlocksState) (sector page : ℕ) → IsJudged c before after (Err (damaged (Page sector page))) → ⊥
not_at_a_page c before after sector page =
    ⊎_elim
    (λ by_either. never_page c before.value (either_copy (before.value first_commit) (before.value second_commit)) sector page by_either)
    (λ by_second. never_page c before.value (only_bytes (before.value second_commit)) sector page by_second.0)

module _ {B : Type 0} {b : Ghosts B} (c : Config) (before after : Store B b) where
  -- A fault of the reading.
  pub refused_by_reading : (fault : StartFault) → (driver_of before).damage ≡ None → SameValues (driver_of before) (driver_of after) → Refuses c (driver_of before) (driver_of after) fault → RefusedFor c before after fault
  refused_by_reading Flash undamaged same refuses = refuses
  refused_by_reading (Damaged (Page sector page)) undamaged same refuses = absurd (not_at_a_page c (driver_of before) (driver_of after) sector page refuses)
  refused_by_reading (Damaged (Block id)) undamaged same refuses = (record { undamaged = undamaged; is = refuses }, same)
  refused_by_reading (OtherConfig found wanted) undamaged same refuses = (record { undamaged = undamaged; is = refuses.0 }, refuses.1, same)
  refused_by_reading SequenceSpent undamaged same refuses = ((refuses.0.0, record { undamaged = undamaged; is = refuses.0.1 }), refuses.1)

  -- A fault of the writing.
  pub refused_by_writing : (fault : BlockFault) (g : Generation) → Judges c before after (Ok g) → (fault ≡ Stuck → IsTrue (driver_of after).is_spent) → ((fault ≡ Stuck → ⊥) → FailsThrice (driver_of before) (driver_of after))
      → ((sector page : ℕ) → fault ≡ DamagedPage sector page → ⊥) → RefusedFor c before after (start_fault_of fault)
  refused_by_writing FlashFault g judged spent thrice mounted = thrice (λ is. absurd (cc is))
  refused_by_writing (Full live needed) g judged spent thrice mounted = thrice (λ is. absurd (cc is))
  refused_by_writing Stuck g judged spent thrice mounted = ((g, judged), spent refl)
  refused_by_writing (DamagedPage sector page) g judged spent thrice mounted = absurd (mounted sector page refl)

-- A fault of a write is none that is judged of the blocks.
pub never_of_blocks : (fault : BlockFault) → IsOfBlocks (start_fault_of fault) → ⊥
never_of_blocks FlashFault of_blocks = of_blocks
never_of_blocks (Full live needed) of_blocks = of_blocks
never_of_blocks Stuck of_blocks = of_blocks
never_of_blocks (DamagedPage sector page) of_blocks = of_blocks

pub was_stuck : (fault : BlockFault) → start_fault_of fault ≡ SequenceSpent → fault ≡ Stuck
was_stuck FlashFault is = absurd (cc is)
was_stuck (Full live needed) is = absurd (cc is)
was_stuck Stuck is = refl
was_stuck (DamagedPage sector page) is = absurd (cc is)

-- A mount that failed.
module _ {before after : BlocksState} where
  pub dark_by_mount : (fault : BlockFault) → MountsInAJob before after (Err fault) → start_fault_of fault ≡ Flash → Tries 3 Mounts before after (Err FlashFault)
  dark_by_mount FlashFault mounts is = mounts.tries
  dark_by_mount (Full live needed) mounts is = absurd (mounts.never_full.full live needed refl)
  dark_by_mount Stuck mounts is = absurd (cc is)
  dark_by_mount (DamagedPage sector page) mounts is = absurd (cc is)

  pub never_stuck_by_mount : (fault : BlockFault) → MountsInAJob before after (Err fault) → start_fault_of fault ≡ SequenceSpent → ⊥
  never_stuck_by_mount fault mounts is = mounts.never_full.spent (ap Err (was_stuck fault is))

pub refused_by_mount : {B : Type 0} {b : Ghosts B} (c : Config) (before after : Store B b) (fault : BlockFault) → MountsInAJob (driver_of before) (driver_of after) (Err fault) → RefusedFor c before after (start_fault_of fault)
refused_by_mount c before after FlashFault mounts = mounts.three refl
refused_by_mount c before after (Full live needed) mounts = absurd (mounts.never_full.full live needed refl)
refused_by_mount c before after Stuck mounts = absurd (mounts.never_full.spent refl)
refused_by_mount c before after (DamagedPage sector page) mounts = let damaged = mounts.calls.damaged sector page refl in (damaged.0, damaged.1, mounts.values)

-- What was judged after a mount was judged in the whole start-up.
module _ {B : Type 0} {b : Ghosts B} (c : Config) (before middle after : Store B b) (follows : Follows (driver_of before) (driver_of middle)) (same : SameValues (driver_of before) (driver_of middle))
    (undamaged : (driver_of before).damage ≡ None) where
  pub judged_through : (judged : Result Generation Fault) → IsJudged c (driver_of middle) (driver_of after) judged → IsJudged c (driver_of before) (driver_of after) judged
  judged_through judged is = judged_in c (driver_of before) (driver_of middle) (driver_of after) (driver_of after) judged same follows.counts (omega arith) is

  same_through : SameValues (driver_of middle) (driver_of after) → SameValues (driver_of before) (driver_of after)
  same_through more number = more number ∙ same number

  pub refused_through : IsTrue (driver_of middle).has_mounted → (fault : StartFault) → RefusedFor c middle after fault → RefusedFor c before after fault
  refused_through mounted Flash rose = let counts = follows.counts in omega (arith, rose, counts)
  refused_through mounted (Damaged (Page sector page)) refused = let not = refused.1 in absurd (cc (mounted, not))
  refused_through mounted (Damaged (Block id)) refused = (record { undamaged = undamaged; is = judged_through (Err (damaged (Block id))) refused.0.is }, same_through refused.1)
  refused_through mounted (OtherConfig found wanted) refused = (record { undamaged = undamaged; is = judged_through (Err (other found)) refused.0.is }, refused.1, same_through refused.2)
  refused_through mounted SequenceSpent refused = ((refused.0.0, record { undamaged = undamaged; is = judged_through (Ok refused.0.0) refused.0.1.is }), refused.1)

  pub starts_through : (number : ℕ) (state : Persist) → Starts c number state middle after → Starts c number state before after
  starts_through number state starts = record {
    undamaged = undamaged;
    judged = judged_through (Ok (numbered number state)) starts.judged;
    usable = not_spent (driver_of before) (driver_of middle) follows starts.usable;
    running = starts.running;
    settled = starts.settled;
  }

pub err_told : {T E : Type 0} {P Q : E → Type 0} (result : Result T E) → ((fault : E) → P fault → Q fault) → IfErr result P → IfErr result Q
err_told (Ok value) to p = tt
err_told (Err fault) to p = to fault p
