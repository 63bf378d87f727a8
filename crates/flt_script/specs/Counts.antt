-- What the lines before a line gave, said by the lines themselves: how many of a kind there are, and whether there is one.
use Rattle.std.specs.Prelude.{◌≡◌, ℕ, ◌+◌, List, [], ◌∷◌, length, count_by, Bool, true, false, ◌&&◌, ◌||◌, is_some}
use Rattle.std.specs.List.{list_any}
use Rattle.flt_config.specs.declared.config.DidUse.{DidUse}
use Rattle.flt_script.specs.Said.{Line}
use Rattle.flt_script.specs.Said as line
use Rattle.flt_script.specs.declared.line.StepLine.TheVariants.{Drain, Arming}
use Rattle.flt_script.specs.Behind.{behind, event_count, has_begun, lane_count, is_store_used, is_store_taken}
use Rattle.flt_script.specs.Causes.{is_for_one_lane}

-- A step.
abbrev pub is_step : Line → Bool
is_step (line.Step step) = true
is_step _ = false

-- A cut, a fault or a mute.
abbrev pub is_arming : Line → Bool
is_arming (line.Step (Arming arm)) = true
is_arming _ = false

-- A drain.
abbrev pub is_drain : Line → Bool
is_drain (line.Step Drain) = true
is_drain _ = false

-- The end of a life.
abbrev pub is_power : Line → Bool
is_power line.Power = true
is_power _ = false

-- A step, the end of a life or the beginning of a block.
abbrev pub is_of_life : Line → Bool
is_of_life (line.Step step) = true
is_of_life line.Power = true
is_of_life line.Par = true
is_of_life _ = false

-- An event.
abbrev pub is_event : Line → Bool
is_event (line.Event event) = true
is_event _ = false

-- Each of the lines that may occur once.
abbrev pub is_config : Line → Bool
is_config (line.Config id) = true
is_config _ = false

abbrev pub is_memory : Line → Bool
is_memory (line.Memory entries) = true
is_memory _ = false

abbrev pub is_blocks : Line → Bool
is_blocks (line.Blocks blocks) = true
is_blocks _ = false

abbrev pub is_flash : Line → Bool
is_flash (line.Flash sectors pages) = true
is_flash _ = false

-- Of par and end the newest is a par: a block is under way.
abbrev pub is_block_open : List Line → Bool
is_block_open [] = false
is_block_open (line.Par ∷ past) = true
is_block_open (line.End ∷ past) = false
is_block_open (_ ∷ past) = is_block_open past

-- How many lanes there are after the newest par or end.
abbrev pub lanes_in_block : List Line → ℕ
lanes_in_block [] = 0
lanes_in_block (line.Par ∷ past) = 0
lanes_in_block (line.End ∷ past) = 0
lanes_in_block (line.Lane ∷ past) = lanes_in_block past + 1
lanes_in_block (_ ∷ past) = lanes_in_block past

-- After the newest par or end there is a save, drain or get.
abbrev pub is_store_behind : List Line → Bool
is_store_behind [] = false
is_store_behind (line.Par ∷ past) = false
is_store_behind (line.End ∷ past) = false
is_store_behind (line.Step step ∷ past) = is_for_one_lane step || is_store_behind past
is_store_behind (_ ∷ past) = is_store_behind past

-- There is one after the newest par or end and before the newest lane.
abbrev pub is_store_before_lane : List Line → Bool
is_store_before_lane [] = false
is_store_before_lane (line.Par ∷ past) = false
is_store_before_lane (line.End ∷ past) = false
is_store_before_lane (line.Lane ∷ past) = is_store_behind past
is_store_before_lane (_ ∷ past) = is_store_before_lane past

-- What is kept of these lines says how many there are of each kind.
pub record IsCounted (dids : List DidUse) (past : List Line) : Type 0 where
  pub steps : (behind dids past).steps ≡ count_by is_step past
  pub arms : (behind dids past).arms ≡ count_by is_arming past
  pub drains : (behind dids past).drains ≡ count_by is_drain past
  pub lives : length (behind dids past).lives ≡ count_by is_power past
  pub events : event_count (behind dids past) ≡ count_by is_event past
  pub block : is_some (behind dids past).block ≡ is_block_open past
  pub lanes : lane_count (behind dids past).block ≡ lanes_in_block past
  pub store : is_store_used (behind dids past).block ≡ (is_block_open past && is_store_behind past)
  pub earlier_store : is_store_taken (behind dids past).block ≡ is_store_before_lane past
  pub begun : has_begun (behind dids past) ≡ list_any is_of_life past
  pub config : is_some (behind dids past).places.config ≡ list_any is_config past
  pub memory : is_some (behind dids past).places.memory ≡ list_any is_memory past
  pub blocks : is_some (behind dids past).places.blocks ≡ list_any is_blocks past
  pub flash : is_some (behind dids past).places.flash ≡ list_any is_flash past
