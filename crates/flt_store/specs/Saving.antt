-- What a save and its parts need, and what they leave.
use Rattle.std.specs.Prelude.{◌≡◌, ◌≢◌, ◌⊎◌, ℕ, ◌+◌, ◌*◌, ◌<◌, List, Option, Some, length, Result, Err, IfOk, IsErrOf, IsErr, IsOk, IsTrue, IsFalse, OnOk, OnErr}
use Rattle.flt_flash.specs.Content.{Content}
use Rattle.flt_flash.specs.Blocks.{BlocksState}
use Rattle.flt_flash.specs.Calls.{CostsAtMost, NoErase, NoFault}
use Rattle.flt_flash.specs.declared.blocks.Blocks.{Ghosts}
use Rattle.flt_flash.specs.declared.blocks.BlockFault.{BlockFault}
use Rattle.flt_config.specs.declared.config.Config.{Config}
use Rattle.flt_config.specs.declared.persist.Persist.{Persist}
use Rattle.flt_config.specs.Durable.{Fits}
use Rattle.flt_store_model.specs.declared.commit.Commit.{Commit}
use Rattle.flt_store_model.specs.Form.{block_bytes}
use Rattle.flt_store_model.specs.Layout.{mark_number, used_ids}
use Rattle.flt_store_model.specs.Holding.{Generation, OldOrNew, last_number}
use Rattle.flt_store_model.specs.Successor.{IsNext, WritesWithin, changed_pages, number_in}
use Rattle.flt_image.specs.Blocks.{AreBlocksOf}
use Rattle.flt_store.specs.declared.fault.SaveFault.{SaveFault}
use Rattle.flt_store.specs.declared.fault.SaveFault.TheVariants.{Flash, Spent, SequenceSpent}
use Rattle.flt_store.specs.declared.store.Store.{Store}
use Rattle.flt_store.specs.Cause.{FailsThrice, IsStuck, IsWithinOwn, StoreWrites}
use Rattle.flt_store.specs.Dark.{IsUnrestarted, IsUnsaved}
use Rattle.flt_store.specs.Keeping.{AreRewritten, KeepsFrom, KeepsPlaces, StandAtZero}
use Rattle.flt_store.specs.Cost.{Spends, pages_to_write}
use Rattle.flt_store.specs.Known.{KnowsNamed, MayKnow}
use Rattle.flt_store.specs.Leaving.{LeavesDriver}
use Rattle.flt_store.specs.Started.{IsStarted}
use Rattle.flt_store.specs.Writing.{AreCopiesOf, AreSized}
use Rattle.flt_store.specs.Store.{Chooses, IsLast, IsRunning, IsUndisturbed, IsUnhindered, MayHaveSaved, Saves, commit_of, driver_of, is_settled, kept_of, numbered}

-- The blocks of the next commit can be written: each at index 0 or 1, and each is as long as its part.
pub record AreWritable (c : Config) (current : Option Commit) (next : Commit) (bytes_of : ℕ → List ℕ) : Type 0 where
  -- The next commit writes each block at index 0 or 1.
  pub indices : WritesWithin c current next
  -- Each block is as long as its part.
  pub sizes : AreSized c bytes_of

-- Blocks of a generation were written: none is longer than the configuration may write there, and each fault has its cause.
pub record WritesOwn {T : Type 0} (c : Config) (before after : BlocksState) (result : Result T BlockFault) : Type 0 where
  -- No block is longer than the configuration may write there.
  pub within : IsWithinOwn c before.value after.value
  -- After Ok the driver is not stale, if it was not before.
  pub not_stale : IsFalse before.is_stale → OnOk result (IsFalse after.is_stale)
  -- Each fault has its cause.
  pub writes : StoreWrites before after result

-- A state can be saved after this commit: a number is left for it, and it fits.
pub record CanSaveBehind (c : Config) (current : Option Commit) (state : Persist) : Type 0 where
  -- A number is left for the next generation.
  pub number : number_in current < last_number
  -- The state fits the configuration.
  pub fits : Fits c state

-- The image holds this generation by both copies of the current commit, and these bytes are known of its blocks.
pub record IsKnownCurrent (c : Config) (value : ℕ → Content) (current : Option Commit) (kept : ℕ → List ℕ) (g : Generation) : Type 0 where
  -- Both copies of the commit name the generation.
  pub started : IsStarted c value current g
  -- What is kept of its blocks is what they hold.
  pub known : MayKnow c current kept g.state

-- A generation was written after another: both copies of the commit name it after Ok, and each names one of the two whatever was answered.
pub record WritesBehind (c : Config) (g new : Generation) (after : ℕ → Content) (result : Result Commit BlockFault) : Type 0 where
  -- After Ok both copies of the commit name the new generation.
  pub started : IfOk result (λ commit. IsStarted c after (Some commit) new)
  -- In any case each copy names the old or the new one.
  pub either : OldOrNew c after g g new

-- The blocks of a generation and its commit were written, and no other: the mark is as it was, and each fault has its cause.
pub record WritesGeneration {T : Type 0} (before after : BlocksState) (result : Result T BlockFault) : Type 0 where
  -- No application block changed, and after Ok the driver is not stale.
  pub driver : LeavesDriver before after result
  -- The mark is as it was.
  pub mark : after.value mark_number ≡ before.value mark_number
  -- Each fault has its cause.
  pub writes : StoreWrites before after result

-- These bytes are those of the state's blocks; after Ok the next commit names them, and both copies have it in the version that is written.
pub record FormsNext (c : Config) (current : Option Commit) (old : ℕ → List ℕ) (state : Persist) (new : ℕ → List ℕ) (after : ℕ → Content) (result : Result Commit BlockFault) : Type 0 where
  -- The new bytes are those of the state's blocks.
  pub encodes : AreBlocksOf c state new
  -- After Ok the commit names the blocks that changed at their other index.
  pub next : IfOk result (IsNext c current old new)
  -- After Ok both copies have it in the version that is written.
  pub rewritten : IfOk result (λ commit. AreCopiesOf commit after)

-- What the writes of a generation cost on a driver that was not stale, where each record costs at most this many operations.
abbrev pub SpendsOnSave : Config → Option Commit → (ℕ → List ℕ) → (ℕ → List ℕ) → BlocksState → BlocksState → Type 0
SpendsOnSave c current old new before after = (most : ℕ) → IsFalse before.is_stale
    → Spends most before after (6 + pages_to_write c current old new) ((length (used_ids c) + 2) * most)

module _ {B : Type 0} {b : Ghosts B} where
  -- A save or a start-up leaves the store settled exactly where it answered Ok.
  pub record SettlesStore {T E : Type 0} (after : Store B b) (result : Result T E) : Type 0 where
    -- After Ok the store is settled.
    pub settled : OnOk result (IsTrue (is_settled after))
    -- After Err it is not.
    pub unsettled : OnErr result (IsFalse (is_settled after))

  -- A call that does not fail, and changes nothing.
  pub record DoesNothing {T E : Type 0} (before after : Store B b) (result : Result T E) : Type 0 where
    -- It does not fail.
    pub never_fails : IsErr result → ⊥
    -- The store is as it was.
    pub same : after ≡ before

  -- The generation from which a save goes on was found; or that failed for its cause, and each generation is one of the two that were held.
  pub record FindsGeneration (c : Config) (held spare : Generation) (before after : Store B b) (result : Result (Unit {0}) SaveFault) : Type 0 where
    -- After Ok both copies name the one from which the save goes on.
    pub found : OnOk result (Chooses c held spare before after)
    -- After Err each generation is one of the two that were held.
    pub failed : (state : Persist) → OnErr result (MayHaveSaved c held spare state before after)
    -- It fails by the flash only if three tries failed.
    pub flash : IsErrOf result Flash → FailsThrice (driver_of before) (driver_of after)
    -- It fails by the flash only if the commit could not be made whole.
    pub unrestarted : IsErrOf result Flash → IsUnrestarted (driver_of before) (driver_of after)
    -- It finds no sequence number only if the driver has none left.
    pub sequence : IsErrOf result SequenceSpent → IsStuck (driver_of after)

  -- A state was saved after the generation that both copies of the commit name, or the save failed for its cause.
  pub record SavesBehind (c : Config) (g : Generation) (state : Persist) (before after : Store B b) (result : Result ℕ SaveFault) : Type 0 where
    -- After Ok the store runs with the next generation alone.
    pub saved : IfOk result (λ number. (number ≡ g.number + 1) × IsRunning c (numbered number state) (numbered number state) after)
    -- After Err the image holds the old generation or the new one.
    pub failed : OnErr result (OldOrNew c (driver_of after).value g g (numbered (g.number + 1) state))
    -- It fails by the flash only if three tries failed.
    pub flash : IsErrOf result Flash → FailsThrice (driver_of before) (driver_of after)
    -- It has no number left only after the last one, and then both copies name the old generation.
    pub spent : IsErrOf result Spent → (g.number ≡ last_number) × IsStarted c (driver_of after).value (commit_of after) g
    -- After the last number it always answers so.
    pub last : g.number ≡ last_number → result ≡ Err Spent
    -- A block whose bytes stayed is where it was.
    pub places : KnowsNamed c (commit_of before) (kept_of before) g.state → OnOk result (KeepsFrom c g.state state (commit_of before) (driver_of after).value)
    -- The first save writes each block at index 0.
    pub first : g.number ≡ 0 → OnOk result (StandAtZero c (driver_of after).value)
    -- The commit is written in version 2.
    pub rewritten : OnOk result (AreRewritten c (driver_of after).value)

  -- What the image of a running store holds after a save: after Ok the new generation, by both copies; after an error of the old two and
  -- the new one some two.
  pub record AnswersSave (c : Config) (held spare : Generation) (state : Persist) (before after : Store B b) (result : Result ℕ SaveFault) : Type 0 where
    -- After Ok both copies name the new generation.
    pub saved : IfOk result (λ number. Saves c held spare state number before after)
    -- After Err the image holds two of the old generations and the new one.
    pub failed : OnErr result (MayHaveSaved c held spare state before after)

  -- Why a save answers what it does.
  pub record CausesOfSave (c : Config) (held spare : Generation) (before after : Store B b) (result : Result ℕ SaveFault) : Type 0 where
    -- It fails by the flash only if three tries failed.
    pub flash : IsErrOf result Flash → FailsThrice (driver_of before) (driver_of after)
    -- It fails by the flash only if what is stored could not be found out, or three tries failed after it was.
    pub unsaved : IsErrOf result Flash → IsUnsaved c (is_settled before) (driver_of before) (driver_of after)
    -- It has no number left only if the generation has the last one.
    pub spent : IsErrOf result Spent → IsLast c held spare before after
    -- After the last number it answers so, or after a failed save that no sequence number is left.
    pub last : IsUndisturbed before after → held.number ≡ last_number → (result ≡ Err Spent) ⊎ (IsFalse (is_settled before) × IsErrOf result SequenceSpent)
    -- It finds no sequence number only if the driver has none left.
    pub sequence : IsErrOf result SequenceSpent → IsStuck (driver_of after)
    -- It answers Ok if a number is left, no three tries fail, and the driver has sequence numbers.
    pub completed : held.number ≢ last_number → IsUnhindered before after → IsOk result

  -- Where a save puts the blocks, and what it costs.
  pub record WritesChanges (c : Config) (held : Generation) (state : Persist) (before after : Store B b) (result : Result ℕ SaveFault) : Type 0 where
    -- A block whose bytes stayed is where it was; where a save failed before, unless the flash failed three times in this one.
    pub places : IsUndisturbed before after → OnOk result (KeepsPlaces c held.state state (driver_of before).value (driver_of after).value)
    -- The first save writes each block at index 0.
    pub first : held.number ≡ 0 → OnOk result (StandAtZero c (driver_of after).value)
    -- The commit is written in version 2, also where that before it was in version 1.
    pub rewritten : OnOk result (AreRewritten c (driver_of after).value)
    -- What a save costs that follows no failed one.
    pub by_changes : IsTrue (is_settled before) → held.number ≢ 0 → IsFalse (driver_of before).is_stale
        → NoFault (driver_of before) (driver_of after) → NoErase (driver_of before) (driver_of after)
        → CostsAtMost (6 + changed_pages c (block_bytes held.state) (block_bytes state)) (driver_of before) (driver_of after)
    -- What such a save costs at most, where sectors are switched too.
    pub at_most : IsTrue (is_settled before) → IsFalse (driver_of before).is_stale → NoFault (driver_of before) (driver_of after)
        → CostsAtMost ((length (used_ids c) + 2) * (2 * c.pages + 4)) (driver_of before) (driver_of after)
