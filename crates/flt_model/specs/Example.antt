-- How a worked example is written: the answers of a controller to a list of calls.
use Rattle.std.specs.Prelude.{◌≡◌, ℕ, ℤ, pos, negsuc, neg_ℤ, map, Bool, false, List, [], ◌∷◌, None}
use Rattle.flt_config.specs.declared.config.Config.{Config}
use Rattle.flt_config.specs.declared.config.DidUse.{DidUse}
use Rattle.flt_config.specs.declared.config.EventCfg.{EventCfg}
use Rattle.flt_config.specs.declared.config.Debounce.TheVariants as kinds
use Rattle.flt_model.specs.Start.{Start, History}
use Rattle.flt_model.specs.Answer.{answers}
use Rattle.flt_model.specs.Durable.{saved_after}
use Rattle.flt_model.specs.declared.call.Op.{Op}
use Rattle.flt_model.specs.declared.call.Op.TheVariants.{Request}
use Rattle.flt_model.specs.declared.call.Op.TheVariants as ops
use Rattle.flt_model.specs.declared.call.Report.TheVariants as reports
use Rattle.flt_model.specs.Reply.{Reply}
use Rattle.flt_model.specs.declared.call.ReplyOf.TheVariants as replies

-- An event with the settings that a script gives it by default.
abbrev pub event : ℕ → EventCfg
event dtc = record {
  dtc = dtc;
  priority = 1;
  cycle = 0;
  confirm = 1;
  heal = 3;
  age = 40;
  indicator = false;
  needs = 0;
  debounce = kinds.Counter (pos 1) (negsuc 0) (pos 1) (pos 1) None None;
  dids = record { items = [] };
}

-- An event whose frames have these data identifiers.
abbrev pub recording : ℕ → List DidUse → EventCfg
recording dtc dids = record (event dtc) { dids = record { items = dids } }

-- A data identifier of a width.
abbrev pub did : ℕ → ℕ → DidUse
did id width = record { id = id; width = width }

-- A configuration of these events.
abbrev pub configured : ℕ → List EventCfg → Config
configured memory events =
    record { id = 0; memory = memory; pages = 512; blocks = 8; events = record { items = events } }

-- The life after these calls and a power-down, at which the durable state was saved.
abbrev pub restarted : Start → History → Start
restarted life past = record { config = life.config; base = saved_after life past }

-- A call, and the answer to it.
pub record Answered : Type 0 where
  pub call : Op
  pub reply : Reply

infix 70 ◌⇒◌
-- A call is answered so.
abbrev pub ◌⇒◌ : Op → Reply → Answered
call ⇒ reply = record { call = call; reply = reply }

-- A life answers these calls, from its beginning, with these replies.
abbrev pub Replays : Start → List Answered → Type 0
Replays life rows = answers life [] (map (λ row. row.call) rows) ≡ map (λ row. row.reply) rows

-- A monitor reports that its test failed.
abbrev pub fail : ℕ → Op
fail event = ops.Report event reports.Failed

-- A monitor reports that its test passed.
abbrev pub pass : ℕ → Op
pass event = ops.Report event reports.Passed

-- A monitor reports that its test tends to fail.
abbrev pub prefail : ℕ → Op
prefail event = ops.Report event reports.PreFailed

-- A monitor reports that its test tends to pass.
abbrev pub prepass : ℕ → Op
prepass event = ops.Report event reports.PrePassed

-- A tester sends these bytes.
abbrev pub asks : ℕ → List ℕ → Op
asks tester bytes = Request tester (record { items = bytes })

-- A response of these bytes.
abbrev pub responds : List ℕ → Reply
responds bytes = replies.Response (record { items = bytes })

-- A number below 0.
abbrev pub minus : ℕ → ℤ
minus n = neg_ℤ (pos n)

-- What is shown: the status, the fault detection counter, the counts, the occurrences and the overflow flag.
abbrev pub shows : ℕ → ℤ → ℕ → ℕ → ℕ → Bool → Reply
shows status counter failed clean stored overflow =
    replies.Shown (record { status = status; fdc = counter; failed = failed; clean = clean; stored = stored; overflow = overflow })

-- The response to a request for the extended session.
abbrev pub extended : Reply
extended = responds (0x50 ∷ 0x03 ∷ 0x00 ∷ 0x32 ∷ 0x01 ∷ 0xF4 ∷ [])

-- The response to a request for the default session.
abbrev pub default_session : Reply
default_session = responds (0x50 ∷ 0x01 ∷ 0x00 ∷ 0x32 ∷ 0x01 ∷ 0xF4 ∷ [])
