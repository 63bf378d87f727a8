-- Lives that go on from what those before them left.
use Rattle.std.proofs.Common.{◌≡◌, ◌∙◌, List, [], ◌∷◌, ℕ, Option, None, true, refl, sym, subst, ap, arith}
use Rattle.flt_config.specs.declared.config.Config.{Config}
use Rattle.flt_flash.specs.Blocks.{BlocksState}
use Rattle.flt_flash.specs.Content.{Content}
use Rattle.flt_store_model.specs.Holding.{Generation, IsSound}
use Rattle.flt_store_model.specs.Laws.{IsGiven}
use Rattle.flt_store_model.proofs.ImageLaws.{held_stands, spare_stands}
use Rattle.flt_life_model.specs.Chain.{LifeView}
use Rattle.flt_life_model.specs.Laws.{BeginsNoOlder, IsNoOlder, acknowledged_in, generation_of_life, last_acknowledged, number_acknowledged}
use Rattle.flt_life_model.specs.Moment.{moment_of}
use Rattle.flt_life_model.specs.declared.life.Boot.{Boot}
use Rattle.flt_life_model.specs.declared.life.Boot.TheVariants as boots
use Rattle.flt_life_model.proofs.Older.{found_last_or_later, found_no_older, leaves_no_older}
use Rattle.flt_live.specs.declared.living.LifeEnd.{LifeEnd}
use Rattle.flt_live.specs.Heard.{Talk}
use Rattle.flt_live.specs.Laws.{EachGoesOn, FirstFindsSound, views_in}
use Rattle.flt_live.specs.Lived.{UnlessLost}
use Rattle.flt_live.specs.Span.{ArePassed, AreSpans, BeginsSo, IsFoundBehind, IsSpan, IsWholeLife, LifeSpan, SameBlocks, WentOn}

-- The words of a run name the start that the life had.
boot_of_view : (c : Config) (boot : Boot) (view : LifeView) (from after : Talk) (end : LifeEnd) → WentOn c boot view from after end → view.boot ≡ boot
boot_of_view c (boots.Started number state) view from after end went = ap (λ (v : LifeView). v.boot) went.view_is
boot_of_view c boots.Dark view from after end went = ap (λ (v : LifeView). v.boot) went.0
boot_of_view c (boots.Refused fault) view from after end went = ap (λ (v : LifeView). v.boot) went.0

module _ (c : Config) (given : IsGiven c) where
  -- The same of blocks that are the same.
  same_older : (number : ℕ) (last : Option Generation) (left found : BlocksState) → SameBlocks left found → IsNoOlder c number last (moment_of left) → IsNoOlder c number last (moment_of found)
  same_older number last left found same is = record {
    held = is.held;
    spare = is.spare;
    sound = record {
      undamaged = same.damage ∙ is.sound.undamaged;
      sound = subst (λ (value : ℕ → Content). IsSound c value is.held is.spare) (sym same.value) is.sound.sound;
    };
    no_older = is.no_older;
    last_or_later = is.last_or_later;
  }

  begins_on : (number : ℕ) (last : Option Generation) (before begun : BlocksState) (boot : Boot) → IsNoOlder c number last (moment_of before) → BeginsSo c before begun boot → BeginsNoOlder number last boot
  begins_on number last before begun (boots.Started generation state) is begins = (
    found_no_older c given held_stands spare_stands number last (moment_of before) begun.device.faults is _ begins.0,
    found_last_or_later c given held_stands spare_stands number last (moment_of before) begun.device.faults is _ begins.0,
  )
  begins_on number last before begun boots.Dark is begins = tt
  begins_on number last before begun (boots.Refused fault) is begins = tt

  -- What the lives so far leave: nothing older than what was acknowledged in them.
  each_goes : (from : Talk) (earlier : List LifeSpan) (life : LifeSpan) → ArePassed true c from earlier life.from → IsFoundBehind true earlier life.before → IsSpan c life → FirstFindsSound c (life ∷ earlier) → EachGoesOn c (life ∷ earlier)
  each_goes from [] life passed found span sound =
      let is : IsNoOlder c 0 None (moment_of life.before) = record { held = sound.0; spare = sound.1; sound = sound.2; no_older = (omega arith, omega arith); last_or_later = (tt, tt) } in
      (is, begins_on 0 None life.before life.begun life.boot is span.is, tt)
  each_goes from (last ∷ earlier) life passed found span sound =
      let so_far = each_goes from earlier last passed.0 passed.4 passed.3 sound in
      let whole = subst (λ (e : LifeEnd). UnlessLost e (IsWholeLife c last e)) passed.2 passed.3.whole in
      let number = acknowledged_in (views_in earlier) in
      let known = last_acknowledged c (views_in earlier) in
      let left = leaves_no_older c given held_stands spare_stands number known (moment_of last.before) last.begun.device.faults so_far.0 (moment_of last.last) last.view last.boot whole.is_life in
      let named = boot_of_view c last.boot last.view whole.between last.after _ whole.went_on in
      let seen = subst (λ (b : Boot). IsNoOlder c (number_acknowledged last.view.journal number) (generation_of_life c b last.view.journal known) (moment_of last.last)) (sym named) left in
      let is = same_older (acknowledged_in (views_in (last ∷ earlier))) (last_acknowledged c (views_in (last ∷ earlier))) last.last life.before (found refl) seen in
      (is, begins_on _ _ life.before life.begun life.boot is span.is, so_far)

pub keep : (c : Config) → IsGiven c → (from to : Talk) (boot : Boot) (end : LifeEnd) (lives : AreSpans true c from to boot end) → FirstFindsSound c (lives.life ∷ lives.earlier) → EachGoesOn c (lives.life ∷ lives.earlier)
keep c given from to boot end lives sound = each_goes c given from lives.earlier lives.life lives.passed lives.found lives.span sound
