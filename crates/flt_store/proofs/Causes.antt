-- The causes of faults along a row of writes, and that there is always room.
use Rattle.std.proofs.Common.{◌≡◌, ◌⊎◌, inl, inr, ⊎_elim, ℕ, ◌+◌, ◌-◌, ◌/◌, ◌<◌, ◌≤◌, max, List, length, Option, Some, None, Result, Ok, Err, refl, sym, ◌∙◌, ap, subst, arith}
use Rattle.std.specs.Prelude.{IsTrue, IsErrOf, IsSomeAnd, sum_by}
use Rattle.std.specs.Result.{IsErrAnd}
use Rattle.std.proofs.lemmas.Bool.{cases_eq}
use Rattle.std.proofs.lemmas.List.Sums.{sum_by-le-sum_by}
use Rattle.flt_flash.specs.Content.{Content, bytes}
use Rattle.flt_flash.specs.Blocks.{BlocksState, pages_of, record_pages, IsFull}
use Rattle.flt_flash.specs.Calls.{BlockCalls, Follows, ReadsAlone}
use Rattle.flt_flash.specs.declared.blocks.BlockFault.{BlockFault}
use Rattle.flt_flash.specs.declared.blocks.BlockFault.TheVariants.{Flash, Full, SequenceSpent, Damaged}
use Rattle.flt_flash.proofs.CallsInARow.{no_call, more_calls}
use Rattle.flt_config.specs.declared.config.Config.{Config}
use Rattle.flt_nvm.specs.Table.{driver_number}
use Rattle.flt_nvm.specs.Leaves.{FlashTakesThree, Gives, GivesBoth}
use Rattle.flt_store_model.specs.Layout.{numbers, commit_id, first_commit, second_commit}
use Rattle.flt_store_model.specs.Excess.{own_pages, excess, IsBorne}
use Rattle.flt_store_model.specs.Laws.{IsGiven}
use Rattle.flt_store_model.proofs.Pages.{borne_has_room}
use Rattle.flt_store_model.specs.Form.{commit_length}
use Rattle.flt_store.specs.Cause.{FailsThrice, HasRoom, IsWithinOwn, StoreWrites}

-- Calls after which Ok was answered, no write, and some writes and then more.
pub calls_done : {T : Type 0} (before after : BlocksState) (value : T) → Follows before after → StoreWrites {T = T} before after (Ok value)
calls_done before after value follows = record {
  keeps_driver = follows;
  flash = λ told. absurd (cc told);
  full = λ live needed told. absurd (cc told);
  stuck = λ told. absurd (cc told);
  mounted = λ has sector page told. absurd (cc told);
}

pub no_write : (state : BlocksState) → StoreWrites state state (Ok (tt {0}))
no_write state = calls_done state state tt (no_call state)

pub writes_on : {T : Type 0} (before middle after : BlocksState) (result : Result T BlockFault) → Follows before middle → StoreWrites middle after result → StoreWrites before after result
writes_on before middle after result first then_ = record {
  keeps_driver = more_calls before middle after first then_.keeps_driver;
  flash = λ told. (let rose = then_.flash told in let counts = first.counts in omega (arith, rose, counts));
  full = then_.full;
  stuck = then_.stuck;
  mounted = λ has. then_.mounted (first.once_mounted has);
}

module _ (before after : BlocksState) (result : Result (Unit {0}) BlockFault) (calls : BlockCalls before after result) (three : FlashTakesThree before after result) where
  not_mounted : IsTrue before.has_mounted → (sector page : ℕ) → IsErrOf result (Damaged sector page) → ⊥
  not_mounted has sector page told = let none = (calls.damaged sector page told).1 in absurd (cc (has, none))

  pub one_write : (number : ℕ) (asked : Content) (size : ℕ) → size ≤ 96 → Gives before after number asked size result → StoreWrites before after result
  one_write number asked size short gives = record {
    keeps_driver = calls.keeps_driver;
    flash = three;
    full = λ live needed told. (size, short, gives.full live needed told);
    stuck = λ told. (number, size, short, gives.spent told);
    mounted = not_mounted;
  }

  pub both_written : (id : ℕ) (asked : Content) (size : ℕ) → size ≤ 96 → GivesBoth before after id asked size result → StoreWrites before after result
  both_written id asked size short gives = record {
    keeps_driver = calls.keeps_driver;
    flash = three;
    full = λ live needed told. (size, short, gives.full live needed told);
    stuck = λ told. ⊎_elim (λ first. (driver_number id 0, size, short, first)) (λ second. (driver_number id 1, size, short, second)) (gives.spent told);
    mounted = not_mounted;
  }

-- A read, which is failed by the flash or by a fault of the image alone.
pub one_read : {T : Type 0} (before after : BlocksState) (result : Result T BlockFault) → ReadsAlone before after result → FlashTakesThree before after result → StoreWrites before after result
one_read before after result reads three = record {
  keeps_driver = reads.calls.keeps_driver;
  flash = three;
  full = λ live needed told. absurd (reads.never_full.full live needed told);
  stuck = λ told. absurd (reads.never_full.spent told);
  mounted = λ has sector page told. (let none = (reads.calls.damaged sector page told).1 in absurd (cc (has, none)));
}

-- The answer of another type has the same causes.
pub writes_as : {S T : Type 0} (before after : BlocksState) (fault : BlockFault) → StoreWrites {T = S} before after (Err fault) → StoreWrites {T = T} before after (Err fault)
writes_as {S} {T} before after fault writes = record {
  keeps_driver = writes.keeps_driver;
  flash = λ told. writes.flash (again Flash told);
  full = λ live needed told. writes.full live needed (again (Full live needed) told);
  stuck = λ told. writes.stuck (again SequenceSpent told);
  mounted = λ has sector page told. writes.mounted has sector page (again (Damaged sector page) told);
}
  where
    again : (other : BlockFault) → IsErrOf {T = T} (Err fault) other → IsErrOf {T = S} (Err fault) other
    again other told = let same : fault ≡ other = cc told in ap Err same

-- An answer that hands on the fault of the writes, and one after writes that answered Ok.
pub writes_handed : {S T : Type 0} (before after : BlocksState) (result : Result S BlockFault) (answer : Result T BlockFault) (fault : BlockFault) → result ≡ Err fault → IsErrAnd answer (λ e. e ≡ fault)
    → StoreWrites before after result → StoreWrites before after answer
writes_handed before after result (Ok value) fault was made writes = absurd made
writes_handed {S} {T} before after result (Err told) fault was made writes =
    writes_as {S = S} {T = T} before after told (subst (λ (r : Result S BlockFault). StoreWrites before after r) (was ∙ ap Err (sym made)) writes)

pub writes_done : {S T : Type 0} (before after : BlocksState) (result : Result S BlockFault) (value : T) → StoreWrites before after result → StoreWrites {T = T} before after (Ok value)
writes_done before after result value writes = calls_done before after value writes.keeps_driver

-- What is there and what is written stays within the bounds.
pub none_written : (c : Config) (value : ℕ → Content) → IsWithinOwn c value value
none_written c value number = inl refl

pub within_on : (c : Config) (before middle after : ℕ → Content) → IsWithinOwn c before middle → IsWithinOwn c middle after → IsWithinOwn c before after
within_on c before middle after first then_ number =
    ⊎_elim
    (λ kept. ⊎_elim (λ stood. inl (kept ∙ stood)) (λ small. (let pages : pages_of (after number) ≡ pages_of (middle number) = ap pages_of kept in inr (omega (arith, pages, small)))) (first number))
    (λ small. inr small) (then_ number)

pub borne_stays : (c : Config) (before after : ℕ → Content) → IsWithinOwn c before after → IsBorne c before → IsBorne c after
borne_stays c before after within borne =
    let total : excess c after ≤ excess c before = sum_by-le-sum_by (λ number. pages_of (after number) - own_pages c number) (λ number. pages_of (before number) - own_pages c number) numbers each in
    omega (arith, total, borne)
  where
    each : (number : ℕ) → pages_of (after number) - own_pages c number ≤ pages_of (before number) - own_pages c number
    each number = ⊎_elim (λ kept. (let pages : pages_of (after number) ≡ pages_of (before number) = ap pages_of kept in omega (arith, pages))) (λ small. omega (arith, small)) (within number)

-- There is room for one record more of up to 96 bytes.
pub never_full : (c : Config) → IsGiven c → (before after : BlocksState) → before.numbers ≡ numbers → HasRoom c before.room → Follows before after → IsBorne c after.value
    → (size live needed : ℕ) → size ≤ 96 → IsFull after size live needed → ⊥
never_full c given before after all room follows borne size live needed short full = by_room after.room (subst (HasRoom c) (sym follows.room) room) full.past
  where
    total : sum_by (λ number. pages_of (after.value number)) numbers ≤ sum_by (λ number. max (pages_of (after.value number)) (own_pages c number)) numbers
    total = sum_by-le-sum_by (λ number. pages_of (after.value number)) (λ number. max (pages_of (after.value number)) (own_pages c number)) numbers (λ number. omega arith)

    live_is : live ≡ sum_by (λ number. pages_of (after.value number)) numbers
    live_is = full.live_is ∙ ap (λ (ns : List ℕ). sum_by (λ number. pages_of (after.value number)) ns) (follows.numbers ∙ all)

    by_room : (room : Option ℕ) → HasRoom c room → IsSomeAnd room (λ r. r < live + needed) → ⊥
    by_room None fits past = absurd past
    by_room (Some r) fits past =
        let bound = borne_has_room c given after.value borne in
        let pages : (size + 31) / 32 ≤ 3 = omega (arith, short) in
        omega (arith, bound, total, live_is, full.needed_is, past, pages, fits)

-- A write that failed, and not for lack of a sequence number, was failed by the flash.
pub was_flash : {T : Type 0} (c : Config) → IsGiven c → (before after : BlocksState) (fault : BlockFault) → StoreWrites {T = T} before after (Err fault) → before.numbers ≡ numbers → HasRoom c before.room
    → IsTrue before.has_mounted → IsBorne c after.value → (fault ≡ SequenceSpent → ⊥) → fault ≡ Flash
was_flash {T} c given before after Flash writes all room has borne other = refl
was_flash {T} c given before after (Full live needed) writes all room has borne other =
    let full = writes.full live needed refl in absurd (never_full c given before after all room writes.keeps_driver borne full.0 live needed full.1 full.2)
was_flash {T} c given before after SequenceSpent writes all room has borne other = absurd (other refl)
was_flash {T} c given before after (Damaged sector page) writes all room has borne other = absurd (writes.mounted has sector page refl)

-- So every fault of the writes is one of the flash, or of the last sequence number.
pub resolved : {T : Type 0} (c : Config) → IsGiven c → (before after : BlocksState) (fault : BlockFault) → StoreWrites {T = T} before after (Err fault) → before.numbers ≡ numbers → HasRoom c before.room
    → IsTrue before.has_mounted → IsBorne c after.value → (fault ≡ SequenceSpent → ⊥) → FailsThrice before after
resolved {T} c given before after fault writes all room has borne other = writes.flash (ap Err (was_flash {T = T} c given before after fault writes all room has borne other))

-- What is written as a commit is no longer than what the configuration may write.
pub own_first : (c : Config) → own_pages c first_commit ≡ 3
unfolding own_pages
own_first c = refl

pub own_second : (c : Config) → own_pages c second_commit ≡ 3
unfolding own_pages
own_second c = refl

-- One number was written with no more than the configuration may write there.
pub given_within : (c : Config) (before after : BlocksState) (number : ℕ) (asked : Content) (size : ℕ) (result : Result (Unit {0}) BlockFault) → Gives before after number asked size result
    → pages_of asked ≤ own_pages c number → IsWithinOwn c before.value after.value
given_within c before after number asked size result gives small other = elim (cases_eq other number) [
  | inl same ↦ subst (λ (n : ℕ). (after.value n ≡ before.value n) ⊎ (pages_of (after.value n) ≤ own_pages c n)) (sym same)
      (⊎_elim (λ kept. inl kept) (λ is. (let pages : pages_of (after.value number) ≡ pages_of asked = ap pages_of is in inr (omega (arith, pages, small)))) gives.either)
  | inr apart ↦ inl (gives.others other apart)
]

abbrev WithinAt : Config → (ℕ → Content) → (ℕ → Content) → ℕ → Type 0
WithinAt c before after number = (after number ≡ before number) ⊎ (pages_of (after number) ≤ own_pages c number)

commit_at : (c : Config) (before after : ℕ → Content) (raw : List ℕ) (number : ℕ) → length raw ≤ commit_length → own_pages c number ≡ 3 → after number ≡ bytes raw → WithinAt c before after number
commit_at c before after raw number size own is = let pages : pages_of (after number) ≡ record_pages (length raw) = ap pages_of is in inr (omega (arith, pages, own, size))

-- Both copies of the commit were written.
pub both_within : (c : Config) (before after : BlocksState) (raw : List ℕ) (result : Result (Unit {0}) BlockFault) → length raw ≤ commit_length
    → GivesBoth before after commit_id (bytes raw) (length raw) result → IsWithinOwn c before.value after.value
both_within c before after raw result size gives number = elim (cases_eq number first_commit) [
  | inl same ↦
      subst (WithinAt c before.value after.value) (sym same)
      (⊎_elim
      (λ one. ⊎_elim (λ kept. inl kept) (λ is. commit_at c before.value after.value raw first_commit size (own_first c) is) one.0)
      (λ two. commit_at c before.value after.value raw first_commit size (own_first c) two.0) gives.either)
  | inr apart ↦ elim (cases_eq number second_commit) [
    | inl same ↦
        subst (WithinAt c before.value after.value) (sym same)
        (⊎_elim (λ one. inl one.1) (λ two. ⊎_elim (λ kept. inl kept) (λ is. commit_at c before.value after.value raw second_commit size (own_second c) is) two.1) gives.either)
    | inr far ↦ inl (gives.others number apart far)
  ]
]
