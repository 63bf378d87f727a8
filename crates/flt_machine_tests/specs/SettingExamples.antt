-- Worked examples of a tester's hold on the DTC setting.
use Rattle.std.specs.Prelude.{[], ◌∷◌}
use Rattle.flt_model.specs.Start.{fresh}
use Rattle.flt_model.specs.declared.call.Op.TheVariants.{Cycle}
use Rattle.flt_model.specs.declared.call.ReplyOf.TheVariants.{Taken, Ignored, Silent}
use Rattle.flt_model.specs.declared.call.Cause.TheVariants.{SettingOff}
use Rattle.flt_model.specs.Example.{event, configured, ◌⇒◌, Replays, fail, asks, responds, extended}

-- Other requests of the tester keep its hold, a clear of all among them.
abbrev pub OtherRequestsKeepTheHold : Type 0
OtherRequestsKeepTheHold =
    Replays (fresh (configured 16 (event 0x000001 ∷ [])))
    (Cycle 0 ⇒ Taken
    ∷ asks 0 (0x10 ∷ 0x03 ∷ []) ⇒ extended
    ∷ asks 0 (0x85 ∷ 0x02 ∷ []) ⇒ responds (0xC5 ∷ 0x02 ∷ [])
    ∷ asks 0 (0x14 ∷ 0x00 ∷ 0x00 ∷ 0x01 ∷ []) ⇒ responds (0x54 ∷ [])
    ∷ fail 0 ⇒ Ignored SettingOff
    ∷ asks 0 (0x14 ∷ 0xFF ∷ 0xFF ∷ 0xFF ∷ []) ⇒ responds (0x54 ∷ [])
    ∷ fail 0 ⇒ Ignored SettingOff
    ∷ asks 0 (0x19 ∷ 0x0B ∷ []) ⇒ responds (0x59 ∷ 0x0B ∷ 0xFF ∷ [])
    ∷ fail 0 ⇒ Ignored SettingOff
    ∷ [])

-- A setting takes effect with its option bytes, and where its response is suppressed.
abbrev pub EachFormOfASetting : Type 0
EachFormOfASetting =
    Replays (fresh (configured 16 (event 0x000001 ∷ [])))
    (Cycle 0 ⇒ Taken
    ∷ asks 0 (0x10 ∷ 0x83 ∷ []) ⇒ Silent
    ∷ asks 0 (0x85 ∷ 0x02 ∷ 0xFF ∷ 0xFF ∷ 0xFF ∷ []) ⇒ responds (0xC5 ∷ 0x02 ∷ [])
    ∷ fail 0 ⇒ Ignored SettingOff
    ∷ asks 0 (0x85 ∷ 0x81 ∷ []) ⇒ Silent
    ∷ fail 0 ⇒ Taken
    ∷ asks 0 (0x85 ∷ 0x82 ∷ []) ⇒ Silent
    ∷ fail 0 ⇒ Ignored SettingOff
    ∷ asks 0 (0x85 ∷ 0x81 ∷ 0xFF ∷ 0xFF ∷ 0xFF ∷ []) ⇒ Silent
    ∷ fail 0 ⇒ Taken
    ∷ [])
