-- What the lanes of a life have beside their locks, whatever it is: what is asked of it before steps, and what they leave of it.
use Rattle.std.specs.Prelude.{◌≡◌, ℕ, ◌+◌, ◌≤◌, List, [], ◌++◌, All, map}
use Rattle.std.proofs.Common.{inl, inr}
use Rattle.flt_config.specs.declared.config.Config.{Config}
use Rattle.flt_flash.specs.declared.arm.Arm.{Arm}
use Rattle.flt_fork.specs.Lived.{IsMain}
use Rattle.flt_step.specs.declared.step.Step.{Step}
use Rattle.flt_step.specs.Part.{PartOf}
use Rattle.flt_life_model.specs.declared.replies.LaneReplies.{LaneReplies}
use Rattle.flt_life_model.specs.Actions.{action_of, arm_count, arms_of}
use Rattle.flt_life_model.specs.Answers.{Told}
use Rattle.flt_life_model.specs.Ordered.{Deed, block_deeds, with_deed}
use Rattle.flt_life_model.specs.Room.{told_in}
use Rattle.flt_lane.specs.Seating.{AreSeated, HaveJoined}
use Rattle.flt_lane.specs.Stepped.{MakesStep}
use Rattle.flt_lane.specs.Views.{KnownLocks, LaneWork, Seats}

-- What is asked of it, and what is left.
pub record Keeping (K : Type 0) : Type 1 where
  -- It works under this configuration, and has places for this many arms.
  pub is_ready : Config → ℕ → K → Type 0
  -- Such a step can be made with it.
  pub allows : Step → Type 0
  -- These deeds were done with it, and these arms were made, which are no more than this many, between two moments at the main seats.
  pub goes_on : Config → Seats → Seats → List Deed → List Arm → ℕ → K → K → Type 0

module _ {K : Type 0} (k : Keeping K) where
  -- Each of these steps can be made with it.
  abbrev pub AreAllowed : List Step → Type 0
  AreAllowed steps = All k.allows steps

  -- So can each step of a part.
  abbrev pub IsAllowedPart : PartOf Step → Type 0
  IsAllowedPart (inl step) = k.allows step
  IsAllowedPart (inr lanes) = All AreAllowed lanes

  -- What holds of it from one step to the next.
  pub record KeepingLaws : Type 0 where
    -- Nothing was done yet.
    pub none : (c : Config) (seats : Seats) (x : K) → k.goes_on c seats seats [] [] 0 x x
    -- What is done further comes after what was done.
    pub further : (c : Config) (a b d : Seats) (deeds more : List Deed) (arms given : List Arm) (n m : ℕ) (x y z : K) → b.dem.start ≡ a.dem.start
        → k.goes_on c a b deeds arms n x y → k.goes_on c b d more given m y z → k.goes_on c a d (deeds ++ more) (arms ++ given) (n + m) x z
    -- After some arms it has places for the others.
    pub still_ready : (c : Config) (a b : Seats) (deeds : List Deed) (arms : List Arm) (n m : ℕ) (x y : K) → k.is_ready c (n + m) x
        → k.goes_on c a b deeds arms n x y → k.is_ready c m y
    -- What has places for many arms has places for fewer.
    pub for_fewer : (c : Config) (n m : ℕ) (x : K) → m ≤ n → k.is_ready c n x → k.is_ready c m x

  -- A step made its calls, its answer is kept, and its deed was done, if it is one.
  pub record TakesStepWith (c : Config) (before after : Seats) (step : Step) (replies kept : LaneReplies) (x y : K) : Type 0 where
    -- The step made its calls, and its answer is kept.
    pub made : MakesStep before.dem after.dem before.queue after.queue step replies kept
    -- Its deed was done, and its arm was made.
    pub goes_on : k.goes_on c before after (with_deed step made.answer []) (arms_of (action_of step)) (arm_count (action_of step)) x y

  -- Lanes made their steps with it.
  pub record CarriesLanes (c : Config) (works ran : List LaneWork) (x y : K) : Type 0 where
    -- Whatever main seats theirs were split from and joined to, their deeds were done there, and no arm was made.
    pub goes_on : (locks : KnownLocks) (main off after : Seats) (lanes : List (List Step)) (told told_after : List (List Told)) → IsMain main.dem → IsMain main.queue
        → AreSeated locks main off lanes works → HaveJoined off after ran told told_after → k.goes_on c main after (block_deeds lanes (map (λ (w : LaneWork). told_in w.replies) ran)) [] 0 x y
