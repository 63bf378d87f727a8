use Rattle.flt_life_model.proofs.Kept.{told_more}
use Rattle.flt_life_model.proofs.replies.LaneReplies.keep.Goals as goal

pub returns-clause-told : goal.returns-clause-told
returns-clause-told c =
    let own = c.args.self.now in
    let told = told_more own.responses.items c.kept-answer.ensures.more.0 own.answers.items c.kept-answer.result own.within in
    cc (told, c.kept-answer.ensures.more.1)
