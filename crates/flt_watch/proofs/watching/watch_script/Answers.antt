use Rattle.std.proofs.Common.{◌≡◌, ◌<◌, ◌+◌, ◌^◌, List, inl, inr, sym, subst, ◌∙◌}
use Rattle.std.specs.Prelude.{Err}
use Rattle.std.specs.Io.KnownBytes.{Appends}
use Rattle.flt_io.specs.Sink.{AppendsFront}
use Rattle.flt_config.specs.Durable.{initial_state}
use Rattle.flt_step.specs.declared.step.Part.{Part}
use Rattle.flt_step.specs.Part.{parts_of}
use Rattle.flt_life_model.specs.declared.life.Boot.TheVariants.{Started}
use Rattle.flt_life_model.specs.Parts.{widths}
use Rattle.flt_notify.specs.Table.{value_of_kind}
use Rattle.flt_watch.specs.Text.{watch_text}
use Rattle.flt_watch.specs.Watched.{CanBeWatched, IsWatchedLife}
use Rattle.flt_watch.proofs.MadeScript.{nothing_written, same_base, same_values, watched_stays}
use Rattle.flt_watch.proofs.OneLife.{livable}
use Rattle.flt_watch.proofs.watching.watch_script.Goals as goal

pub live-requires-clause-can : goal.live-requires-clause-can
live-requires-clause-can g c κs within =
    let script = c.args.script.now in
    let life = c.index-parts.result.now in
    let fit = livable script.config script.lives.items life c.requires.watchable c.index-parts.ensures script.in_range script.few script.few_parts in
    subst (CanBeWatched script.config) (sym c.deref.ensures.value) fit.can

pub write_watched-requires-clause-lanes : goal.write_watched-requires-clause-lanes
write_watched-requires-clause-lanes g c =
    let script = c.args.script.now in
    let life = c.index-parts.result.now in
    let fit = livable script.config script.lives.items life c.requires.watchable c.index-parts.ensures script.in_range script.few script.few_parts in
    subst (λ (parts : List Part). widths (parts_of parts) + 1 < 2 ^ 32) (sym c.deref-2.ensures.value) fit.can.numbers

pub returns-in_default : goal.returns-in_default
returns-in_default g c =
    inr (record { status_is = c.unmade.ensures.status; journal = c.unmade.ensures.unmade.journal; answers = c.unmade.ensures.unmade.answers; kept = nothing_written (g.K.Sink.held c.args.sink.now) })

pub returns-in-Ok-write_watched : goal.returns-in-Ok-write_watched
returns-in-Ok-write_watched g c =
    let script = c.args.script.now in
    let life = c.index-parts.result.now in
    let fit = livable script.config script.lives.items life c.requires.watchable c.index-parts.ensures script.in_range script.few script.few_parts in
    let parts = parts_of life.items in
    let watched = c.in-Ok.watched in
    let outcome = c.made.result in
    let made = c.made.ensures in
    let lived = subst (λ (l : List Part). IsWatchedLife script.config (parts_of l) watched.life watched.subs) c.deref.ensures.value c.in-Ok.ensures.life in
    let text : watch_text (parts_of c.deref-2.result.now) watched.life.boot watched.life.replies.items (value_of_kind watched.subs) ≡ watch_text parts (Started 0 outcome.base) outcome.answers.items (value_of_kind outcome.subs) =
    λ i. watch_text (parts_of (c.deref-2.ensures.value i)) (made.boot i) (sym made.answers i) (same_values watched.subs outcome.subs (sym made.subs.0) (sym made.subs.1) i) in
    inl (record {
      parts = parts;
      one = fit.one;
      base = same_base watched.life.boot outcome.base (initial_state script.config) made.boot c.in-Ok.ensures.boot;
      life = watched_stays script.config parts watched.life.journal.items outcome.journal.items watched.life.replies.items outcome.answers.items watched.subs outcome.subs made.journal made.answers (sym made.subs.0) (sym made.subs.1) lived;
      kinds_are = made.subs.0 ∙ c.in-Ok.ensures.kinds;
      told = inl (made.status, subst (Appends (g.K.Sink.held c.args.sink.now) (g.K.Sink.held c.write_watched.new.sink)) text c.in-Ok-write_watched.ensures.ok);
    })

pub returns-in-Err-Failed : goal.returns-in-Err-Failed
returns-in-Err-Failed g c =
    let script = c.args.script.now in
    let life = c.index-parts.result.now in
    let fit = livable script.config script.lives.items life c.requires.watchable c.index-parts.ensures script.in_range script.few script.few_parts in
    let parts = parts_of life.items in
    let watched = c.in-Ok.watched in
    let outcome = c.made-in-Err-Failed.result in
    let made = c.made-in-Err-Failed.ensures in
    let lived = subst (λ (l : List Part). IsWatchedLife script.config (parts_of l) watched.life watched.subs) c.deref.ensures.value c.in-Ok.ensures.life in
    let text : watch_text (parts_of c.deref-2.result.now) watched.life.boot watched.life.replies.items (value_of_kind watched.subs) ≡ watch_text parts (Started 0 outcome.base) outcome.answers.items (value_of_kind outcome.subs) =
    λ i. watch_text (parts_of (c.deref-2.ensures.value i)) (made.boot i) (sym made.answers i) (same_values watched.subs outcome.subs (sym made.subs.0) (sym made.subs.1) i) in
    inl (record {
      parts = parts;
      one = fit.one;
      base = same_base watched.life.boot outcome.base (initial_state script.config) made.boot c.in-Ok.ensures.boot;
      life = watched_stays script.config parts watched.life.journal.items outcome.journal.items watched.life.replies.items outcome.answers.items watched.subs outcome.subs made.journal made.answers (sym made.subs.0) (sym made.subs.1) lived;
      kinds_are = made.subs.0 ∙ c.in-Ok.ensures.kinds;
      told = inr (made.status, c.in-Err-Failed.ensures.cause (λ i. Err (c.in-Err-Failed.field-0-is i)), subst (AppendsFront (g.K.Sink.held c.args.sink.now) (g.K.Sink.held c.write_watched.new.sink)) text c.in-Err-Failed.ensures.err);
    })
