use Rattle.std.proofs.Common.{◌∙◌, sym}
use Rattle.serde_json.proofs.Views.{members_len-members_view}
use Rattle.flt_trace.proofs.Strings.{counted}
use Rattle.flt_trace.proofs.object.reading.member_count.Goals as goal

pub returns-in-Some : goal.returns-in-Some
returns-in-Some c = c.len.ensures.len ∙ sym (counted _ _ (sym c.in-Some.ensures) ∙ members_len-members_view c.in-Some.members.now.entries)
