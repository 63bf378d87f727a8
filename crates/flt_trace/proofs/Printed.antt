-- Calls that are printed.
use Rattle.std.proofs.Common.{◌≡◌, ℕ, suc, ◌+◌, ◌<◌, List, [], ◌∷◌, ◌++◌, length, take, get_or, Result, Ok, Err, All, refl, sym, subst, arith, true}
use Rattle.std.specs.Prelude.{IfOk, slice_index}
use Rattle.std.proofs.lemmas.Bool.{lt-ltb}
use Rattle.std.proofs.lemmas.Grind.{take_at_read}
use Rattle.std.proofs.lemmas.List.{get_or-map, length-map}
use Rattle.flt_config.specs.declared.config.Config.{Config}
use Rattle.flt_model.specs.declared.call.Op.{Op}
use Rattle.flt_script.specs.Laws.{are_bytes}
use Rattle.flt_turn.specs.declared.vault.Entry.{Entry}
use Rattle.flt_turn.specs.Journal.{ops_of}
use Rattle.flt_trace.proofs.Calls.{one_more}
use Rattle.flt_trace.specs.Call.{AreCallTexts, CanBeMade, IsCallText}

pub ok_so : {A E : Type 0} (P Q : A → Type 0) → ((a : A) → P a → Q a) → (r : Result A E) → IfOk r P → IfOk r Q
ok_so P Q so (Ok a) is = so a is
ok_so P Q so (Err e) is = tt

-- One text more.
pub text_more : (c : Config) (calls : List (Entry Op)) (texts : List (List ℕ)) (place : ℕ) (call : Entry Op) (text : List ℕ) → place < length calls
    → (All (CanBeMade c) (ops_of calls) → AreCallTexts c (take place calls) texts) → (CanBeMade c (get_or calls place call).op → IsCallText c (get_or calls place call) text)
    → All (CanBeMade c) (ops_of calls) → AreCallTexts c (take (place + 1) calls) (texts ++ text ∷ [])
text_more c calls texts place call text within so_far next all =
    let can = subst (CanBeMade c) (get_or-map (λ (e : Entry Op). e.op) calls place call call.op within) (all place call.op (omega (arith, within, length-map calls (λ (e : Entry Op). e.op)))) in
    subst (λ (l : List (Entry Op)). AreCallTexts c l (texts ++ text ∷ [])) (sym (take_at_read calls place call within).1)
    (one_more c (take place calls) texts (get_or calls place call) text (so_far all) (next can))

-- Bytes that are each below 256.
pub all_bytes : (bytes : List ℕ) → ((index : ℕ) → slice_index bytes index < 256) → are_bytes bytes ≡ true
all_bytes [] small = refl
all_bytes (byte ∷ bytes) small = rw (lt-ltb byte 256 (small 0), all_bytes bytes (λ index. small (suc index))) refl
