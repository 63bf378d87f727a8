-- The first fault of two lists of settings, one after the other.
use Rattle.std.proofs.Common.{◌≡◌, List, [], ◌++◌, Ok, Err, ap, refl, arith, ℕ, ◌+◌, ◌<◌, length, drop, get_or, drop-cons, ◌≤◌, suc, ◌∙◌}
use Rattle.std.proofs.lemmas.List.Folds.{find-append}
use Rattle.std.proofs.lemmas.List.{drop_all}
use Rattle.std.proofs.lemmas.Int.{to_z-of_z}
use Rattle.flt_config.specs.declared.setting.Setting.{Setting}
use Rattle.flt_config.specs.declared.config.CfgFault.{CfgFault}
use Rattle.flt_config.specs.Ranges.{ranges_result, events_settings, event_settings}
use Rattle.flt_config.specs.declared.config.EventCfg.{EventCfg}

pub ranges_result-append_ok : (xs ys : List Setting) → ranges_result xs ≡ Ok tt → ranges_result (xs ++ ys) ≡ ranges_result ys
unfolding ranges_result
ranges_result-append_ok xs ys e = rw find-append (grind arith)

pub ranges_result-append_err : (xs ys : List Setting) (f : CfgFault) → ranges_result xs ≡ Err f → ranges_result (xs ++ ys) ≡ Err f
unfolding ranges_result
ranges_result-append_err xs ys f e = rw find-append (grind arith)

pub ranges_result-nil : ranges_result [] ≡ Ok tt
unfolding ranges_result
ranges_result-nil = refl

pub ruleset first_faults = (ranges_result-append_ok, ranges_result-append_err, ranges_result-nil)

pub events_settings-drop : (events : List EventCfg) (n : ℕ) (d : EventCfg) → n < length events
    → events_settings n (drop n events) ≡ event_settings n (get_or events n d) ++ events_settings (n + 1) (drop (n + 1) events)
unfolding events_settings
events_settings-drop events n d h =
    let more : suc n ≡ n + 1 = omega arith in
    ap (events_settings n) (drop-cons events n d h)
    ∙ ap (λ m. event_settings n (get_or events n d) ++ events_settings (n + 1) (drop m events)) more

-- The same where the settings have signed numbers that were passed on.
pub ruleset signed_faults = (first_faults, to_z-of_z)

pub events_settings-end : (events : List EventCfg) (n : ℕ) → length events ≤ n
    → ranges_result (events_settings n (drop n events)) ≡ Ok tt
unfolding events_settings ranges_result
events_settings-end events n h = rw (drop_all n events h) refl

-- If the event at n has no fault, the faults continue after it.
pub events_settings-ok : (events : List EventCfg) (n : ℕ) (d : EventCfg) → n < length events
    → ranges_result (event_settings n (get_or events n d)) ≡ Ok tt
    → ranges_result (events_settings n (drop n events)) ≡ ranges_result (events_settings (n + 1) (drop (n + 1) events))
events_settings-ok events n d h ok =
    ap ranges_result (events_settings-drop events n d h) ∙ ranges_result-append_ok _ _ ok

-- Where it has one, that is the first.
pub events_settings-err : (events : List EventCfg) (n : ℕ) (d : EventCfg) (f : CfgFault) → n < length events
    → ranges_result (event_settings n (get_or events n d)) ≡ Err f
    → ranges_result (events_settings n (drop n events)) ≡ Err f
events_settings-err events n d f h err =
    ap ranges_result (events_settings-drop events n d h) ∙ ranges_result-append_err _ _ f err
