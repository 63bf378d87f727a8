-- Worked examples of confirmation, aging and operation cycles.
use Rattle.std.specs.Prelude.{◌+◌, map, flat_map, false, [], ◌∷◌, pos}
use Rattle.flt_config.specs.Durable.{initial_state}
use Rattle.flt_model.specs.Start.{fresh}
use Rattle.flt_model.specs.Durable.{below}
use Rattle.flt_model.specs.declared.call.Op.TheVariants.{Cycle, Show}
use Rattle.flt_model.specs.declared.call.ReplyOf.TheVariants.{Taken, Ignored}
use Rattle.flt_model.specs.declared.call.Cause.TheVariants.{NotStarted}
use Rattle.flt_model.specs.Example.{event, configured, ◌⇒◌, Replays, fail, pass, shows}

-- Failures of one cycle count once for the confirmation too.
abbrev pub ConfirmsOncePerCycle : Type 0
ConfirmsOncePerCycle =
    Replays (fresh (configured 16 (record (event 0x000001) { confirm = 2 } ∷ [])))
    (Cycle 0 ⇒ Taken
    ∷ fail 0 ⇒ Taken
    ∷ pass 0 ⇒ Taken
    ∷ fail 0 ⇒ Taken
    ∷ Show 0 ⇒ shows 0x27 (pos 127) 1 0 2 false
    ∷ [])

-- An event whose clean count was saved beyond its threshold does not age: only where the count comes to exactly the threshold.
abbrev pub AgesAtExactlyItsThreshold : Type 0
AgesAtExactlyItsThreshold =
    Replays (record {
      config = configured 16 (record (event 0x000001) { age = 2 } ∷ []);
      base = record (initial_state (configured 16 (event 0x000001 ∷ []))) {
        events = record { items = record { status = 0x68; failed = 0; clean = 5; lit = false } ∷ [] };
      };
    })
    (Cycle 0 ⇒ Taken
    ∷ pass 0 ⇒ Taken
    ∷ Cycle 0 ⇒ Taken
    ∷ Show 0 ⇒ shows 0x68 (pos 0) 0 6 0 false
    ∷ [])

-- Each of the four operation cycles is started by a call on it, and no other.
abbrev pub EachCycleStarts : Type 0
EachCycleStarts =
    Replays (fresh (configured 16 (map (λ c. record (event (c + 1)) { cycle = c }) (below 4))))
    (flat_map (λ c. fail c ⇒ Ignored NotStarted ∷ Cycle c ⇒ Taken ∷ fail c ⇒ Taken ∷ []) (below 4))
