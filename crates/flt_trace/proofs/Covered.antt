-- The places that the calls of a lane are given are all of its places in the journal: they rise, and there are as many.
use Rattle.std.proofs.Common.{◌≡◌, ◌⊎◌, inl, inr, ℕ, zero, suc, ◌+◌, ◌≤◌, Bool, true, false, List, [], ◌∷◌, length, Option, Some, eq-eqb, arith, refl, sym, ap, subst, ◌∙◌}
use Rattle.std.specs.Prelude.{slice_get, ◌==◌}
use Rattle.flt_turn.specs.declared.vault.Entry.{Entry}
use Rattle.flt_turn.specs.Journal.{entry, calls_of}
use Rattle.flt_fork.specs.Mixing.{Call, Rise}
use Rattle.flt_fork.proofs.Rising.{rise_lower}

module _ {O : Type 0} (n : ℕ) where
  -- How many calls of the lane a piece has, with one entry more.
  own_more : (e : Entry O) (piece : List (Entry O)) → (e.lane == n) ≡ true → length (calls_of n (e ∷ piece)) ≡ length (calls_of n piece) + 1
  own_more e piece is = rw is (omega arith)

  other_more : (e : Entry O) (piece : List (Entry O)) → (e.lane == n) ≡ false → length (calls_of n (e ∷ piece)) ≡ length (calls_of n piece)
  other_more e piece is = rw is refl

  no_fewer : (e : Entry O) (piece : List (Entry O)) (b : Bool) → (e.lane == n) ≡ b → length (calls_of n piece) ≤ length (calls_of n (e ∷ piece))
  no_fewer e piece true is = let more = own_more e piece is in omega (arith, more)
  no_fewer e piece false is = let more = other_more e piece is in omega (arith, more)

  is_own : (e : Entry O) (op : O) → ◌≡◌ {A = Option (Entry O)} (Some e) (Some (entry n op)) → (e.lane == n) ≡ true
  is_own e op is = let same : e ≡ entry n op = cc in eq-eqb e.lane n (ap (λ (x : Entry O). x.lane) same)

  covered_none : (piece : List (Entry O)) → length (calls_of n piece) ≤ 0 → (place : ℕ) (op : O) → slice_get piece place ≡ Some (entry n op) → ⊥
  covered_none [] none place op there = absurd cc
  covered_none (e ∷ piece) none zero op there = let more = own_more e piece (is_own e op there) in absurd (omega (arith, none, more))
  covered_none (e ∷ piece) none (suc place) op there = covered_none piece (let fewer = no_fewer e piece (e.lane == n) refl in omega (arith, none, fewer)) place op there

module _ {O R : Type 0} where
  -- A place is given.
  abbrev pub Tell : ℕ → List (Call O R) → Type 0
  Tell place [] = ⊥
  Tell place (call ∷ calls) = (call.told.place ≡ place) ⊎ Tell place calls

module _ {O R : Type 0} (n : ℕ) where
  -- A call is in a piece of a journal that begins at a place.
  pub record StandsIn (low : ℕ) (piece : List (Entry O)) (call : Call O R) : Type 0 where
    pub behind : ℕ
    pub place : call.told.place ≡ low + behind
    pub there : slice_get piece behind ≡ Some (entry n call.op)

  abbrev pub StandIn : ℕ → List (Entry O) → List (Call O R) → Type 0
  StandIn low piece [] = Unit {0}
  StandIn low piece (call ∷ calls) = StandsIn low piece call × StandIn low piece calls

  one_behind : (low : ℕ) (e : Entry O) (piece : List (Entry O)) (call : Call O R) → low + 1 ≤ call.told.place → (behind : ℕ) → call.told.place ≡ low + behind
      → slice_get (e ∷ piece) behind ≡ Some (entry n call.op) → StandsIn (low + 1) piece call
  one_behind low e piece call later zero place there = absurd (omega (arith, later, place))
  one_behind low e piece call later (suc k) place there = record { behind = k; place = place ∙ omega arith; there = there }

  -- Calls at later places come after the first entry.
  all_behind : (low : ℕ) (e : Entry O) (piece : List (Entry O)) (calls : List (Call O R)) → Rise (low + 1) calls → StandIn low (e ∷ piece) calls → StandIn (low + 1) piece calls
  unfolding Rise
  all_behind low e piece [] rise stand = tt
  all_behind low e piece (call ∷ calls) rise stand = (
    one_behind low e piece call rise.0 stand.0.behind stand.0.place stand.0.there,
    all_behind low e piece calls (rise_lower (call.told.place + 1) (low + 1) calls (let first = rise.0 in omega (arith, first)) rise.1) stand.1,
  )

  first_later : (low : ℕ) (e : Entry O) (piece : List (Entry O)) (call : Call O R) (calls : List (Call O R)) → (behind : ℕ) → call.told.place ≡ low + suc behind → Rise low (call ∷ calls)
      → StandIn low (e ∷ piece) (call ∷ calls) → (Rise (low + 1) (call ∷ calls)) × StandIn (low + 1) piece (call ∷ calls)
  unfolding Rise
  first_later low e piece call calls behind place rise stand =
      let rises : Rise (low + 1) (call ∷ calls) = (omega (arith, place), rise.1) in (rises, all_behind low e piece (call ∷ calls) rises stand)

  rest_of : (low : ℕ) (call : Call O R) (calls : List (Call O R)) → call.told.place ≡ low + 0 → Rise low (call ∷ calls) → Rise (low + 1) calls
  unfolding Rise
  rest_of low call calls place rise = rise_lower (call.told.place + 1) (low + 1) calls (omega (arith, place)) rise.1

  -- There are no more calls than the piece has.
  few_at : (low : ℕ) (e : Entry O) (piece : List (Entry O)) (call : Call O R) (calls : List (Call O R)) (behind : ℕ) → call.told.place ≡ low + behind
      → slice_get (e ∷ piece) behind ≡ Some (entry n call.op) → Rise low (call ∷ calls) → StandIn low (e ∷ piece) (call ∷ calls) → ((calls : List (Call O R)) → Rise (low + 1) calls → StandIn (low + 1) piece calls → length calls ≤ length (calls_of n piece))
      → length (call ∷ calls) ≤ length (calls_of n (e ∷ piece))
  few_at low e piece call calls zero place there rise stand later =
      let rises = rest_of low call calls place rise in
      let rest = later calls rises (all_behind low e piece calls rises stand.1) in
      let more = own_more n e piece (is_own n e call.op there) in
      omega (arith, rest, more)
  few_at low e piece call calls (suc behind) place there rise stand later =
      let both = first_later low e piece call calls behind place rise stand in
      let rest = later (call ∷ calls) both.0 both.1 in
      let more = no_fewer n e piece (e.lane == n) refl in
      omega (arith, rest, more)

  few : (low : ℕ) (piece : List (Entry O)) (calls : List (Call O R)) → Rise low calls → StandIn low piece calls → length calls ≤ length (calls_of n piece)
  few low piece [] rise stand = omega arith
  few low [] (call ∷ calls) rise stand = let none = stand.0.there in absurd cc
  few low (e ∷ piece) (call ∷ calls) rise stand = few_at low e piece call calls stand.0.behind stand.0.place stand.0.there rise stand (few (low + 1) piece)

  -- Where there are as many, each place of the lane is given to one of them.
  covered_here : (low : ℕ) (e : Entry O) (piece : List (Entry O)) (call : Call O R) (calls : List (Call O R)) → call.told.place ≡ low + 0 → slice_get (e ∷ piece) 0 ≡ Some (entry n call.op)
      → Rise low (call ∷ calls) → StandIn low (e ∷ piece) (call ∷ calls) → length (calls_of n (e ∷ piece)) ≤ length (call ∷ calls) → ((calls : List (Call O R)) → Rise (low + 1) calls → StandIn (low + 1) piece calls → length (calls_of n piece) ≤ length calls → (place : ℕ) (op : O) → slice_get piece place ≡ Some (entry n op) → Tell ((low + 1) + place) calls)
      → (place : ℕ) (op : O) → slice_get (e ∷ piece) place ≡ Some (entry n op) → Tell (low + place) (call ∷ calls)
  covered_here low e piece call calls is here rise stand enough later zero op there = inl is
  covered_here low e piece call calls is here rise stand enough later (suc place) op there =
      let rises = rest_of low call calls is rise in
      let more = own_more n e piece (is_own n e call.op here) in
      let next : low + 1 + place ≡ low + suc place = omega arith in
      inr (subst (λ p. Tell p calls) next (later calls rises (all_behind low e piece calls rises stand.1) (omega (arith, enough, more)) place op there))

  covered_later : (low : ℕ) (e : Entry O) (piece : List (Entry O)) (call : Call O R) (calls : List (Call O R)) (behind : ℕ) → call.told.place ≡ low + suc behind
      → Rise low (call ∷ calls) → StandIn low (e ∷ piece) (call ∷ calls) → length (calls_of n (e ∷ piece)) ≤ length (call ∷ calls) → ((calls : List (Call O R)) → Rise (low + 1) calls → StandIn (low + 1) piece calls → length (calls_of n piece) ≤ length calls → (place : ℕ) (op : O) → slice_get piece place ≡ Some (entry n op) → Tell ((low + 1) + place) calls) → (b : Bool) → (e.lane == n) ≡ b
      → (place : ℕ) (op : O) → slice_get (e ∷ piece) place ≡ Some (entry n op) → Tell (low + place) (call ∷ calls)
  covered_later low e piece call calls behind is rise stand enough later true own place op there =
      let both = first_later low e piece call calls behind is rise stand in
      let rest = few (low + 1) piece (call ∷ calls) both.0 both.1 in
      let more = own_more n e piece own in
      absurd (omega (arith, enough, rest, more))
  covered_later low e piece call calls behind is rise stand enough later false own zero op there = absurd (let no = sym own ∙ is_own n e op there in cc)
  covered_later low e piece call calls behind is rise stand enough later false own (suc place) op there =
      let both = first_later low e piece call calls behind is rise stand in
      let more = other_more n e piece own in
      let next : low + 1 + place ≡ low + suc place = omega arith in
      subst (λ p. Tell p (call ∷ calls)) next (later (call ∷ calls) both.0 both.1 (omega (arith, enough, more)) place op there)

  covered_by : (low : ℕ) (e : Entry O) (piece : List (Entry O)) (call : Call O R) (calls : List (Call O R)) (behind : ℕ) → call.told.place ≡ low + behind
      → slice_get (e ∷ piece) behind ≡ Some (entry n call.op) → Rise low (call ∷ calls) → StandIn low (e ∷ piece) (call ∷ calls) → length (calls_of n (e ∷ piece)) ≤ length (call ∷ calls)
      → ((calls : List (Call O R)) → Rise (low + 1) calls → StandIn (low + 1) piece calls → length (calls_of n piece) ≤ length calls → (place : ℕ) (op : O) → slice_get piece place ≡ Some (entry n op) → Tell ((low + 1) + place) calls) → (place : ℕ) (op : O) → slice_get (e ∷ piece) place ≡ Some (entry n op) → Tell (low + place) (call ∷ calls)
  covered_by low e piece call calls zero is here rise stand enough later place op there = covered_here low e piece call calls is here rise stand enough later place op there
  covered_by low e piece call calls (suc behind) is here rise stand enough later place op there =
      covered_later low e piece call calls behind is rise stand enough later (e.lane == n) refl place op there

  pub covered : (low : ℕ) (piece : List (Entry O)) (calls : List (Call O R)) → Rise low calls → StandIn low piece calls → length (calls_of n piece) ≤ length calls
      → (place : ℕ) (op : O) → slice_get piece place ≡ Some (entry n op) → Tell (low + place) calls
  covered low [] calls rise stand enough place op there = absurd cc
  covered low (e ∷ piece) [] rise stand enough place op there = absurd (covered_none n (e ∷ piece) enough place op there)
  covered low (e ∷ piece) (call ∷ calls) rise stand enough place op there =
      covered_by low e piece call calls stand.0.behind stand.0.place stand.0.there rise stand enough (covered (low + 1) piece) place op there
