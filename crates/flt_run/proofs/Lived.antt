-- The lives of a script, as they were made; no life is refused for the flash: it is dark instead.
use Rattle.std.proofs.Common.{Global, ◌≡◌, ◌≢◌, ℕ, ◌<◌, ◌≤◌, arith, List, [], ◌∷◌, length, reverse, Option, sym, subst}
use Rattle.std.specs.Prelude.{All, IfSome, Vec}
use Rattle.std.proofs.lemmas.List.{length-map, reverse-append, reverse-reverse}
use Rattle.std.proofs.lemmas.Option.{IfSome_then}
use Rattle.std.proofs.lemmas.List.Elements.{All-nil, All-cons, All-head, All-tail, All-append}
use Rattle.flt_flash.specs.declared.arm.ArmMade.{ArmMade}
use Rattle.flt_flash.specs.Blocks.{DeviceState}
use Rattle.flt_flash.specs.State.{PowerUp}
use Rattle.flt_config.specs.declared.config.Config.{Config}
use Rattle.flt_restore.specs.declared.fault.StartFault.TheVariants.{Flash}
use Rattle.flt_script.specs.declared.script.Script.{Script}
use Rattle.flt_step.specs.declared.step.Part.{Part}
use Rattle.flt_step.specs.declared.step.Step.{Step}
use Rattle.flt_step.specs.Part.{PartOf, parts_of}
use Rattle.flt_life_model.specs.declared.life.Boot.{Boot}
use Rattle.flt_life_model.specs.declared.life.Boot.TheVariants.{Refused}
use Rattle.flt_life_model.specs.declared.life.Life.{Life}
use Rattle.flt_life_model.specs.Chain.{LifeView, IsLifeBegunBy, AreLinked}
use Rattle.flt_life_model.specs.Lives.{lists, lives_seen, view_of, views_of}
use Rattle.flt_life_model.specs.Moment.{Moment, Medium, moment_at}
use Rattle.flt_lives.specs.Devices.{CanLiveOn, LivesOn}
use Rattle.flt_report.proofs.Possible.{all_arms_same, all_widths_same, possible_lives}
use Rattle.flt_run.specs.declared.made.Made.{Made}

not_flash : (c : Config) (boot next : Moment) (ended : ℕ) (life : LifeView) → IsLifeBegunBy c boot next ended life life.boot → life.boot ≢ Refused Flash
not_flash c boot next ended life holds = λ is. (subst (IsLifeBegunBy c boot next ended life) is holds).0

views_not_flash : (c : Config) (medium : Medium) (arms : Option (List ArmMade)) (earlier : ℕ) (next : PowerUp) (boots : List PowerUp) (lives : List LifeView)
    → AreLinked c medium arms earlier next boots lives → All (λ (life : LifeView). life.boot ≢ Refused Flash) lives
views_not_flash c medium arms earlier next [] [] linked = All-nil _
views_not_flash c medium arms earlier next [] (life ∷ lives) linked = absurd linked
views_not_flash c medium arms earlier next (boot ∷ boots) [] linked = absurd linked
views_not_flash c medium arms earlier next (boot ∷ boots) (life ∷ lives) linked =
    All-cons (λ (l : LifeView). l.boot ≢ Refused Flash) life lives (not_flash c (moment_at medium boot) (moment_at medium next) _ life linked.0) (views_not_flash c medium arms earlier boot boots lives linked.1)

-- The same of the lives in their order.
pub all_of_views : (P : Boot → Type 0) (script : List (List (PartOf Step))) (lives : List Life) → All (λ (life : LifeView). P life.boot) (views_of script lives) → All (λ (life : Life). P life.boot) lives
all_of_views P script [] all = All-nil _
all_of_views P [] (life ∷ rest) all =
    All-cons (λ (l : Life). P l.boot) life rest (All-head (λ (l : LifeView). P l.boot) (view_of [] life) (views_of [] rest) all)
    (all_of_views P [] rest (All-tail (λ (l : LifeView). P l.boot) (view_of [] life) (views_of [] rest) all))
all_of_views P (parts ∷ script) (life ∷ rest) all =
    All-cons (λ (l : Life). P l.boot) life rest (All-head (λ (l : LifeView). P l.boot) (view_of parts life) (views_of script rest) all)
    (all_of_views P script rest (All-tail (λ (l : LifeView). P l.boot) (view_of parts life) (views_of script rest) all))

pub turned : {A : Type 0} (P : A → Type 0) (all : List A) → All P all → All P (reverse all)
turned P [] all = all
turned P (one ∷ rest) all =
    subst (All P) (sym (reverse-append (one ∷ []) rest)) (All-append P (reverse rest) (one ∷ []) (turned P rest (All-tail P one rest all)) (All-cons P one [] (All-head P one rest all) (All-nil P)))

-- What holds of how each life began, as the lives are seen, holds so of the lives.
pub all_of_seen : (P : Boot → Type 0) (script : List (List (PartOf Step))) (lives : List Life) → All (λ (life : LifeView). P life.boot) (lives_seen script lives) → All (λ (life : Life). P life.boot) lives
all_of_seen P script lives all =
    all_of_views P script lives (subst (All (λ (life : LifeView). P life.boot)) (reverse-reverse (views_of script lives)) (turned (λ (life : LifeView). P life.boot) (lives_seen script lives) all))

none_refused_by_flash : (c : Config) (medium : Medium) (arms : Option (List ArmMade)) (earlier : ℕ) (next : PowerUp) (boots : List PowerUp) (script : List (List (PartOf Step))) (lives : List Life)
    → AreLinked c medium arms earlier next boots (lives_seen script lives) → All (λ (life : Life). life.boot ≢ Refused Flash) lives
none_refused_by_flash c medium arms earlier next boots script lives linked = all_of_seen (λ b. b ≢ Refused Flash) script lives (views_not_flash c medium arms earlier next boots (lives_seen script lives) linked)

-- ---- the lives of a script

-- A script that was lived has a life.
pub some_lives : (script : List (List (PartOf Step))) (made : Made) → lists made.script.items ≡ script → 0 < length script
some_lives script made is =
    let size = made.script.ok.0 in
    let some = made.some in
    let many = length-map made.script.items (λ life. parts_of life.items) in
    let same : length (lists made.script.items) ≡ length script = λ i. length (is i) in
    omega (arith, size, some, many, same)

-- A device can bear the lives of a script: with a boot for each of as many as it may have, and with no arm yet.
can_live : (script : Script) (device : DeviceState) → 256 ≤ device.bench.boots_left → device.bench.armed ≡ 0 → CanLiveOn script.config device script.lives.items
can_live script device boots unarmed =
    let lives = script.few_lives in
    let steps = script.few in
    let widths = all_widths_same script.lives.items in
    let parts = script.few_parts in
    let arms = all_arms_same script.lives.items in
    let armed = script.few_arms in
    record {
      boots = omega (arith, lives, boots);
      few = steps;
      small = omega (arith, widths, parts);
      possible = possible_lives script.config script.lives.items script.in_range;
      arms = omega (arith, arms, armed, unarmed);
    }

-- The same of the lives as a call is handed them, and of what the call makes of them.
module _ (script : Script) (handed : List (Vec Part Global)) (same : handed ≡ script.lives.items) where
  pub can_live_handed : (device : DeviceState) → 256 ≤ device.bench.boots_left → device.bench.armed ≡ 0 → CanLiveOn script.config device handed
  can_live_handed device boots unarmed = subst (CanLiveOn script.config device) (sym same) (can_live script device boots unarmed)

  pub lived_handed : {A : Type 0} (medium : Medium) (before after : DeviceState) (made : Option (Vec Life A)) → LivesOn medium script.config before after (lists handed) made
      → LivesOn medium script.config before after (lists script.lives.items) made
  lived_handed medium before after made = subst (λ (lives : List (Vec Part Global)). LivesOn medium script.config before after (lists lives) made) same

pub none_by_flash : {A : Type 0} (c : Config) (medium : Medium) (before after : DeviceState) (script : List (List (PartOf Step))) (lives : Option (Vec Life A)) → LivesOn medium c before after script lives
    → IfSome lives (λ lives. All (λ (life : Life). life.boot ≢ Refused Flash) lives.items)
none_by_flash c medium before after script lives left =
    IfSome_then lives left.lived (λ one lived. none_refused_by_flash c medium _ _ _ lived.linked.boots script one.items lived.linked.linked)
