use Rattle.std.proofs.Common.{inl, refl, sym, subst, arith}
use Rattle.flt_config.specs.declared.config.Config.{Config}
use Rattle.flt_life_model.specs.Actions.{IsPossible, action_of}
use Rattle.flt_embed.proofs.memory.Memory.make.Goals as goal

pub call-answer-requires-clause-admitted : goal.call-answer-requires-clause-admitted
call-answer-requires-clause-admitted g c =
    let tested = c.if-not-are_possible.ensures.0 refl 0 (inl c.args.step) (omega arith) in
    let possible = subst (λ (config : Config). IsPossible config (action_of c.args.step)) c.config.ensures.value tested in
    (subst (IsPossible c.args.self.now.config) (sym c.in-Call.ensures) possible).1

pub post-answer-requires : goal.post-answer-requires
post-answer-requires g c =
    let tested = c.if-not-are_possible.ensures.0 refl 0 (inl c.args.step) (omega arith) in
    let possible = subst (λ (config : Config). IsPossible config (action_of c.args.step)) c.config.ensures.value tested in
    record { admitted = (subst (IsPossible c.args.self.now.config) (sym c.in-Queue.ensures) possible).1 }

pub get-requires : goal.get-requires
get-requires g c =
    let tested = c.if-not-are_possible.ensures.0 refl 0 (inl c.args.step) (omega arith) in
    let possible = subst (λ (config : Config). IsPossible config (action_of c.args.step)) c.config.ensures.value tested in
    record { block = subst (IsPossible c.args.self.now.config) (sym c.in-Get.ensures) possible }
