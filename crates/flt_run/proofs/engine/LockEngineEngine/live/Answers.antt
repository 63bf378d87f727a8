use Rattle.std.proofs.Common.{[], length, map, reverse, arith, rules, sym, ap, subst, ◌∙◌}
use Rattle.std.proofs.lemmas.List.{append-nil, length-map}
use Rattle.flt_config.specs.Durable.{Fits}
use Rattle.flt_model.specs.Start.{Start}
use Rattle.flt_step.specs.Part.{part_of, parts_of}
use Rattle.flt_store.specs.Store.{driver_of, numbered}
use Rattle.flt_life_model.specs.declared.life.Boot.TheVariants as boots
use Rattle.flt_life_model.specs.Causes.{AreCaused}
use Rattle.flt_life_model.specs.Chain.{KeepsApplications, LifeView, Leaves, start_from, told_of}
use Rattle.flt_life_model.specs.Moment.{moment_of}
use Rattle.flt_life_model.specs.Played.{IsLife, IsPlayed}
use Rattle.flt_life_model.specs.Room.{told_in}
use Rattle.flt_shared.specs.Call.{Seat}
use Rattle.flt_lane.specs.Runs.{QueueSeat}
use Rattle.flt_fork.proofs.Closing.{fresh_of, closed}
use Rattle.flt_lane.specs.Kept.{store_keeping}
use Rattle.flt_lane.specs.Living.{Carries}
use Rattle.flt_lane.proofs.StoreLanes.{all_allowed}
use Rattle.flt_run.proofs.LifeEnds.{IsOver, caused_of, holds_of, left_of, over_of, same_blocks, starts_from, turned_life}
use Rattle.flt_run.proofs.engine.LockEngineEngine.live.Given as given
use Rattle.flt_run.proofs.engine.LockEngineEngine.live.Goals as goal

pub live-requires-clause-can : goal.live-requires-clause-can
live-requires-clause-can g c κs within =
    let config = c.args.config.now in
    let main = c.in-Ok.ensures.ok in
    let jobs = c.in-Ok-make.ensures.ok in
    let begins = starts_from config c.args.buffers.now.state c.in-Ok.main _ _ _ main (c.boot.ensures.config ∙ c.requires.same) c.boot.ensures.stands.base in
    let calls = ap (λ (s : Seat). s.left) main in
    let queued = ap (λ (s : QueueSeat). s.left) jobs in
    let children = ap (λ (s : Seat). s.children) main in
    let job_children = ap (λ (s : QueueSeat). s.children) jobs in
    let blocks = ap (λ (s : QueueSeat). s.start) jobs ∙ same_blocks c.config.result.now config c.config.ensures.value in
    record {
      ready = record {
        dem = record {
          lock = c.in-Ok.ensures.lock;
          has = record { same = ap (λ (s : Start). s.config) begins; valid = search rules; fits = subst (λ (s : Start). Fits config s.base) (sym begins) c.requires.started.fits };
        };
        queue = record { lock = c.in-Ok-make.ensures.lock; blocks = blocks; valid = search rules };
      };
      main = search rules;
      able = record { alive = record { held = _; spare = _; running = c.requires.started.running }; places = c.requires.fit.arms };
      possible = c.requires.fit.possible;
      few = c.requires.fit.few;
      allowed = all_allowed (store_keeping {B = g.row.D.Denot} {b = g.D.Blocks}) (λ step. tt) (parts_of c.args.parts.now);
      calls = record {
        dem = omega (arith, calls, c.for_parts-calls.ensures.machine);
        queue = omega (arith, queued, c.for_parts-calls.ensures.queue);
        dem_numbers = omega (arith, children, c.requires.fit.numbers);
        queue_numbers = omega (arith, job_children, c.requires.fit.numbers);
      };
    }

pub live-requires-clause-room : goal.live-requires-clause-room
live-requires-clause-room g c κs within =
    let count = length-map c.args.parts.now part_of in
    record {
      few = omega (arith, count, c.requires.fit.indices, ap length c.requires.room.own_empty.answers);
      own = c.requires.room.own_room;
      told = omega (arith, c.requires.room.none_told.1, c.requires.room.told_room);
    }

over : (g : given.Over) (c : goal.After-life_of-life g) → IsOver c.args.config.now c.args.buffers.now.state c.in-Ok.main c.live.new.seats.dem c.in-Ok-make.jobs c.live.new.seats.queue (parts_of c.args.parts.now) (told_in c.live.new.answers.own)
    (map told_in c.live.new.answers.told.items) c.close-journal.result.journal.items c.close-queued.result.journal.items c.args.store.now c.live.new.store
over g c =
    let main = c.in-Ok.main in
    let after = c.live.new.seats.dem in
    let jobs = c.in-Ok-make.jobs in
    let jobs_after = c.live.new.seats.queue in
    let journal = c.close-journal.result.journal.items in
    let queue = c.close-queued.result.journal.items in
    let begins = starts_from c.args.config.now c.args.buffers.now.state main _ _ _ c.in-Ok.ensures.ok (c.boot.ensures.config ∙ c.requires.same) c.boot.ensures.stands.base in
    let counted = ap (λ (s : QueueSeat). s.start) c.in-Ok-make.ensures.ok ∙ same_blocks c.config.result.now c.args.config.now c.config.ensures.value in
    over_of c.args.config.now c.args.buffers.now.state main after jobs jobs_after (parts_of c.args.parts.now) (told_in c.live.new.answers.own) (map told_in c.live.new.answers.told.items) journal queue c.args.store.now c.live.new.store
    (fresh_of main _ _ _ c.in-Ok.ensures.ok) (fresh_of jobs _ _ _ c.in-Ok-make.ensures.ok) begins counted c.in_ok-live.ensures.lived.ran
    (closed after journal c.close-journal.ensures.seen c.close-journal.ensures.olds c.close-journal.ensures.calls)
    (closed jobs_after queue c.close-queued.ensures.seen c.close-queued.ensures.olds c.close-queued.ensures.calls) (subst (λ l. Carries c.args.config.now main after jobs jobs_after [] l c.args.store.now c.live.new.store) (append-nil _) (c.in_ok-live.ensures.lived.goes_on.carries []))

pub returns-clause-lived : goal.returns-clause-lived
returns-clause-lived g c =
    let config = c.args.config.now in
    let state = c.args.buffers.now.state in
    let first = numbered c.args.generation state in
    let parts = parts_of c.args.parts.now in
    let own = told_in c.live.new.answers.own in
    let lanes = map told_in c.live.new.answers.told.items in
    let journal = c.close-journal.result.journal.items in
    let queue = c.close-queued.result.journal.items in
    let before = moment_of (driver_of c.args.store.now) in
    let after = moment_of (driver_of c.live.new.store) in
    let running = c.requires.started.running in
    let left = left_of config c.args.generation state _ _ _ _ parts own lanes journal queue c.args.store.now c.live.new.store (over g c) running in
    let holds = holds_of config c.args.generation state _ _ _ _ parts own lanes journal queue c.args.store.now c.live.new.store (over g c) running in
    let turned = turned_life (start_from config state) parts own lanes journal queue (over g c).ended.life in
    let view : LifeView = record { parts = parts; boot = _; journal = reverse journal; queue = reverse queue; own = own; lanes = lanes } in
    let is = sym {b = view} (c.life_of-life.ensures parts) in
    let leaves : Leaves config first view after = record {
      held = left.held;
      spare = left.spare;
      last = left.kept.last;
      sound = record { undamaged = g.met.D.Blocks.mounted_is_sound c.live.new.store.nvm.blocks left.running.served.mounted; sound = left.running.sound };
      acknowledged = left.kept.acknowledged;
      held_is = left.kept.held_is;
      spare_is = left.kept.spare_is;
      rising = left.kept.rising;
    } in
    record {
      boot = ap (λ (view : LifeView). view.boot) (c.life_of-life.ensures parts) ∙ ap (λ s. boots.Started c.args.generation s) c.twin-start.ensures;
      leaves = subst (λ (view : LifeView). Leaves config first view after) is leaves;
      caused = λ boot rose.
          subst (λ (view : LifeView). AreCaused config boot after (told_of view)) is
          (caused_of config c.args.generation state _ _ _ _ parts own lanes journal queue c.args.store.now c.live.new.store (over g c) running boot rose);
      played = subst (λ (view : LifeView). IsPlayed config view) is
          (subst (λ (s : _). IsLife (start_from config s) parts own lanes (reverse (reverse journal)) (reverse (reverse queue))) (sym c.twin-start.ensures) turned);
      kept = subst (λ (view : LifeView). KeepsApplications before after view) is (record { held = holds.held; got = holds.got });
      arms_made = c.in_ok-live.ensures.lived.goes_on.arms_made;
    }

pub returns-clause-stays : goal.returns-clause-stays
returns-clause-stays g c =
    let gone = c.in_ok-live.ensures.lived.goes_on in
    record { alive = (gone.carries []).alive (record { held = _; spare = _; running = c.requires.started.running }); keeps_driver = gone.keeps_driver; armed = gone.armed }
