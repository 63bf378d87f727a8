-- A line whose keyword begins no step says none.
use Rattle.std.proofs.Common.{◌≡◌, ℕ, Bool, true, false, List, [], ◌∷◌, Option, Some, None, Result, Ok, Err, refl, ap, sym, ◌∙◌}
use Rattle.std.specs.Prelude.{option_map}
use Rattle.std.specs.Option.{ok_or}
use Rattle.std.specs.Result.{result_ok}
use Rattle.flt_config.specs.declared.config.Config.{Config}
use Rattle.flt_script.specs.declared.fault.LineCause.{LineCause}
use Rattle.flt_script.specs.declared.fault.LineCause.TheVariants.{Form}
use Rattle.flt_script.specs.declared.keyword.Keyword.{Keyword}
use Rattle.flt_script.specs.declared.keyword.Keyword.TheVariants as keyword
use Rattle.flt_script.specs.declared.line.StepLine.{StepLine}
use Rattle.flt_script.specs.Said.{Line}
use Rattle.flt_script.specs.Said as line
use Rattle.flt_script.specs.Alone.{said_step, step_where}
use Rattle.flt_script.specs.Behind.{step_of}
use Rattle.flt_script.specs.Gives.{◌⇒◌}
use Rattle.flt_script.specs.Line.{line_with, did_with, alone}
use Rattle.flt_script.specs.Next.{begins_step, said_behind}
use Rattle.flt_script.specs.Numeral.{number, hexadecimal}

module _ (config : Config) where
  -- What is made of a value is no step.
  unsaid : {A : Type 0} (f : A → Line) → ((x : A) → said_step config (f x) ≡ None) → (o : Option A) → step_where config (ok_or (option_map f o) Form) ≡ None
  unsaid f never None = refl
  unsaid f never (Some x) = never x

  unsaid_alone : (said : Line) → said_step config said ≡ None → (words : List (List ℕ)) → step_where config (ok_or (alone said words) Form) ≡ None
  unsaid_alone said never [] = never
  unsaid_alone said never (word ∷ words) = refl

  unsaid_both : (event id : Option ℕ) → step_where config (ok_or (event ⇒ λ event. id ⇒ λ id. Some (line.Did event id)) Form) ≡ None
  unsaid_both None id = refl
  unsaid_both (Some event) None = refl
  unsaid_both (Some event) (Some id) = refl

  unsaid_did : (words : List (List ℕ)) → step_where config (ok_or (did_with words) Form) ≡ None
  unfolding did_with
  unsaid_did [] = refl
  unsaid_did (e ∷ []) = refl
  unsaid_did (e ∷ h ∷ []) = unsaid_both (number e) (hexadecimal 4 h)
  unsaid_did (e ∷ h ∷ more ∷ words) = refl

  pub says_none : (keyword : Keyword) (words : List (List ℕ)) → begins_step keyword ≡ false → step_where config (ok_or (line_with keyword words) Form) ≡ None
  unfolding line_with
  says_none keyword.Event words others = unsaid line.Event (λ event. refl) _
  says_none keyword.Did words others = unsaid_did words
  says_none keyword.Config words others = unsaid line.Config (λ id. refl) _
  says_none keyword.Memory words others = unsaid line.Memory (λ entries. refl) _
  says_none keyword.Blocks words others = unsaid line.Blocks (λ blocks. refl) _
  says_none keyword.Flash words others = unsaid (λ (numbers : ℕ × ℕ). line.Flash numbers.0 numbers.1) (λ numbers. refl) _
  says_none keyword.Power words others = unsaid_alone line.Power refl words
  says_none keyword.Par words others = unsaid_alone line.Par refl words
  says_none keyword.Lane words others = unsaid_alone line.Lane refl words
  says_none keyword.End words others = unsaid_alone line.End refl words
  says_none keyword.Pass words others = absurd (let wrong : true ≡ false = others in cc wrong)
  says_none keyword.Fail words others = absurd (let wrong : true ≡ false = others in cc wrong)
  says_none keyword.PrePass words others = absurd (let wrong : true ≡ false = others in cc wrong)
  says_none keyword.PreFail words others = absurd (let wrong : true ≡ false = others in cc wrong)
  says_none keyword.Show words others = absurd (let wrong : true ≡ false = others in cc wrong)
  says_none keyword.Cycle words others = absurd (let wrong : true ≡ false = others in cc wrong)
  says_none keyword.Tick words others = absurd (let wrong : true ≡ false = others in cc wrong)
  says_none keyword.Signal words others = absurd (let wrong : true ≡ false = others in cc wrong)
  says_none keyword.Enable words others = absurd (let wrong : true ≡ false = others in cc wrong)
  says_none keyword.Request words others = absurd (let wrong : true ≡ false = others in cc wrong)
  says_none keyword.Save words others = absurd (let wrong : true ≡ false = others in cc wrong)
  says_none keyword.Post words others = absurd (let wrong : true ≡ false = others in cc wrong)
  says_none keyword.Urge words others = absurd (let wrong : true ≡ false = others in cc wrong)
  says_none keyword.Drain words others = absurd (let wrong : true ≡ false = others in cc wrong)
  says_none keyword.Get words others = absurd (let wrong : true ≡ false = others in cc wrong)
  says_none keyword.Ask words others = absurd (let wrong : true ≡ false = others in cc wrong)
  says_none keyword.Cut words others = absurd (let wrong : true ≡ false = others in cc wrong)
  says_none keyword.Fault words others = absurd (let wrong : true ≡ false = others in cc wrong)
  says_none keyword.Mute words others = absurd (let wrong : true ≡ false = others in cc wrong)

  -- The step that was read, by what the words after its keyword say.
  pub says_step : (keyword : Keyword) (words : List (List ℕ)) (written : Option StepLine) → (begins_step keyword ≡ true → option_map line.Step written ≡ line_with keyword words)
      → (begins_step keyword ≡ false → written ≡ None) → step_where config (ok_or (line_with keyword words) Form) ≡ (written ⇒ step_of config)
  says_step keyword words written said none = by_keyword (begins_step keyword) refl
    where
      read : (written : Option StepLine) → step_where config (ok_or (option_map line.Step written) Form) ≡ (written ⇒ step_of config)
      read None = refl
      read (Some step) = refl

      by_keyword : (b : Bool) → begins_step keyword ≡ b → step_where config (ok_or (line_with keyword words) Form) ≡ (written ⇒ step_of config)
      by_keyword true is = ap (λ (o : Option Line). step_where config (ok_or o Form)) (sym (said is)) ∙ read written
      by_keyword false is = says_none keyword words is ∙ sym (ap (λ (o : Option StepLine). o ⇒ step_of config) (none is))

-- The keyword that a line begins with, and the words after it.
pub begun : (r : Result (Option (Keyword × List (List ℕ))) LineCause) (first : Option (Keyword × List (List ℕ))) (found : Keyword × List (List ℕ))
    → result_ok r ≡ Some first → first ≡ Some found → said_behind r ≡ ok_or (line_with found.0 found.1) Form
begun (Err cause) first found is some = absurd cc
begun (Ok None) first found is some = absurd cc
begun (Ok (Some pair)) first found is some =
    let same : pair ≡ found = cc (is, some) in
    ap (λ (p : Keyword × List (List ℕ)). ok_or (line_with p.0 p.1) Form) same
