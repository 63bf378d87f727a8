use Rattle.std.proofs.Common.{◌≡◌, List, length, map, reverse, arith, rules, sym, ap, subst, ◌∙◌}
use Rattle.std.proofs.lemmas.List.{length-map, reverse-reverse}
use Rattle.flt_config.specs.declared.config.Config.{Config}
use Rattle.flt_config.specs.Durable.{Fits}
use Rattle.flt_config.proofs.InitialFits.{initial_fits}
use Rattle.flt_lane.specs.Runs.{QueueSeat}
use Rattle.flt_watch.proofs.OneLife.{allowed_parts}
use Rattle.flt_model.specs.Start.{Start, fresh}
use Rattle.flt_model.specs.declared.call.Op.{Op}
use Rattle.flt_turn.specs.declared.vault.Entry.{Entry}
use Rattle.flt_turn.specs.Journal.{ops_of}
use Rattle.flt_step.specs.Part.{part_of, parts_of}
use Rattle.flt_life_model.specs.declared.life.Boot.TheVariants as boots
use Rattle.flt_life_model.specs.Answers.{Told}
use Rattle.flt_life_model.specs.Chain.{LifeView}
use Rattle.flt_life_model.specs.Lives.{lanes_told, own_told}
use Rattle.flt_life_model.specs.Played.{IsMade, StepMakes}
use Rattle.flt_life_model.specs.Room.{told_in}
use Rattle.flt_shared.specs.Call.{Seat, reply_after}
use Rattle.flt_fork.proofs.Closing.{closed, fresh_of}
use Rattle.flt_lane.proofs.WholeLife.{made_of}
use Rattle.flt_notify.specs.Table.{HasValuesOf}
use Rattle.flt_watch.specs.Watched.{IsWatched}
use Rattle.flt_watch.proofs.life.live.Goals as goal

pub live-requires-clause-can : goal.live-requires-clause-can
live-requires-clause-can g c κs within =
    let config = c.args.config.now in
    let main = c.in_ok-dem.ensures.ok in
    let jobs = c.in-Ok.ensures.ok in
    let begins : c.in_ok-dem.main.start ≡ fresh config = ap (λ (s : Seat). s.start) main ∙ (λ i. record { config = c.in_ok-unit.ensures.config i; base = c.in_ok-unit.ensures.stands.base i }) in
    let calls = ap (λ (s : Seat). s.left) main in
    let queued = ap (λ (s : QueueSeat). s.left) jobs in
    let children = ap (λ (s : Seat). s.children) main in
    let job_children = ap (λ (s : QueueSeat). s.children) jobs in
    let can = c.requires.can in
    record {
      ready = record {
        dem = record {
          lock = c.in_ok-dem.ensures.lock;
          has = record { same = ap (λ (s : Start). s.config) begins; valid = search rules; fits = subst (λ (s : Start). Fits config s.base) (sym begins) (initial_fits config) };
        };
        queue = record { lock = c.in-Ok.ensures.lock; blocks = ap (λ (s : QueueSeat). s.start) jobs ∙ ap (λ (c : Config). c.blocks) c.config.ensures.value; valid = search rules };
      };
      main = search rules;
      able = tt;
      possible = can.possible;
      few = can.few;
      allowed = allowed_parts (parts_of c.args.parts.now) can.watched;
      calls = record {
        dem = omega (arith, calls, c.for_parts-calls.ensures.machine);
        queue = omega (arith, queued, c.for_parts-calls.ensures.queue);
        dem_numbers = omega (arith, children, can.numbers);
        queue_numbers = omega (arith, job_children, can.numbers);
      };
    }

pub live-requires-clause-room : goal.live-requires-clause-room
live-requires-clause-room g c κs within =
    let room = c.in_ok-own.ensures in
    let count = length-map c.args.parts.now part_of in
    record {
      few = omega (arith, count, c.requires.can.indices, ap length room.own_empty.answers);
      own = room.own_room;
      told = omega (arith, room.none_told.1, room.told_room);
    }

pub returns-clause-boot : goal.returns-clause-boot
returns-clause-boot g c = ap (λ (view : LifeView). view.boot) (c.life_of-life.ensures (parts_of c.args.parts.now)) ∙ ap (λ s. boots.Started 0 s) c.initial.ensures.value

pub returns-clause-life : goal.returns-clause-life
returns-clause-life g c =
    let parts = parts_of c.args.parts.now in
    let config = c.args.config.now in
    let main = c.in_ok-dem.main in
    let after = c.live.new.seats.dem in
    let own = told_in c.live.new.answers.own in
    let lanes = map told_in c.live.new.answers.told.items in
    let journal = c.close-journal.result.journal.items in
    let made_journal = c.life_of-life.result.journal.items in
    let replies = c.life_of-life.result.replies.items in
    let view = c.life_of-life.ensures parts in
    let lived = c.in_ok-live.ensures.lived in
    let begins : main.start ≡ fresh config = ap (λ (s : Seat). s.start) c.in_ok-dem.ensures.ok ∙ (λ i. record { config = c.in_ok-unit.ensures.config i; base = c.in_ok-unit.ensures.stands.base i }) in
    let whole = closed after journal c.close-journal.ensures.seen c.close-journal.ensures.olds c.close-journal.ensures.calls in
    let made = made_of reply_after StepMakes main after parts own lanes journal (fresh_of main _ _ _ c.in_ok-dem.ensures.ok) lived.ran.dem whole in
    let started = subst (λ (s : Start). IsMade StepMakes reply_after s parts own lanes journal) begins made in
    let turned : reverse made_journal ≡ reverse journal = ap (λ (v : LifeView). v.journal) view in
    let same : made_journal ≡ journal = sym (reverse-reverse made_journal) ∙ ap (λ (l : List (Entry Op)). reverse l) turned ∙ reverse-reverse journal in
    let owns : own_told replies ≡ own = ap (λ (v : LifeView). v.own) view in
    let others : lanes_told replies ≡ lanes = ap (λ (v : LifeView). v.lanes) view in
    let values = subst (λ (s : Start). HasValuesOf s (reverse (ops_of journal)) c.close-journal.result.subs) (lived.ran.dem.lived.start_is ∙ begins) c.close-journal.ensures.values in
    subst (λ (l : List (Entry Op)). IsWatched config parts l replies c.close-journal.result.subs) (sym same) record {
      made = subst (λ (l : List Told). IsMade StepMakes reply_after (fresh config) parts l (lanes_told replies) journal) (sym owns)
          (subst (λ (l : List (List Told)). IsMade StepMakes reply_after (fresh config) parts own l journal) (sym others) started);
      values = values;
    }
