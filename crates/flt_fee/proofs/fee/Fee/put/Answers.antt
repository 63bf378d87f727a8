use Rattle.std.proofs.Common.{◌≡◌, inl, Option, Result, Err, length, sym, ◌∙◌, subst, arith, rules}
use Rattle.flt_flash.specs.Blocks.{live_pages}
use Rattle.flt_flash.specs.declared.blocks.BlockFault.{BlockFault}
use Rattle.flt_pages.specs.LogHolds.{record_content}
use Rattle.flt_fee.specs.declared.fee.Fee.{Fee}
use Rattle.flt_fee.specs.Costs.{MakesRoom, Stores}
use Rattle.flt_fee.specs.Fee.{uncounted_of}
use Rattle.flt_fee.specs.Refusal.{record_refusal, AnswersBy}
use Rattle.flt_flash.proofs.CallsInARow.{calls_after, more_calls}
use Rattle.flt_fee.proofs.Costing.{put_costs, store_costs, stored_behind, unless}
use Rattle.flt_fee.proofs.Refusing.{past_is}
use Rattle.flt_fee.proofs.Putting.{same_refusal, values_on, changes_on, not_refused}
use Rattle.flt_fee.specs.Wear.{StaysEven, UnlessFlash}
use Rattle.flt_fee.proofs.Wearing.{even_on, unless_any, unless_map, used_same}
use Rattle.flt_fee.proofs.fee.Fee.put.Goals as goal

pub returns-in_err-make_room-clause-stored : goal.returns-in_err-make_room-clause-stored
returns-in_err-make_room-clause-stored g c =
    let old = c.args.self.now in
    let new = c.make_room.new.self in
    let before = uncounted_of g.F.Flash.state old in
    let settled = uncounted_of g.F.Flash.state c.settle.new.self in
    let after = uncounted_of g.F.Flash.state new in
    let failed : Result (Unit {0}) BlockFault = Err c.in_err-make_room.field-0.0 in
    let same = same_refusal before settled c.args.block (length c.args.bytes.now) c.in_ok-settle.ensures.mounts.part.calls.keeps_driver.numbers c.in_ok-settle.ensures.mounts.part.calls.keeps_driver.room c.in_ok-settle.ensures.mounts.values (c.in_ok-settle.ensures.mounts.stuck c.args.block (length c.args.bytes.now)) in
    let told : c.from_residual-in_err-make_room.result ≡ Err c.in_err-make_room.field-0.0 = grind arith in
    record {
      answers = subst (λ (result : Result (Unit {0}) BlockFault). AnswersBy (record_refusal before c.args.block (length c.args.bytes.now)) result) (sym told)
          (subst (λ (refused : Option BlockFault). AnswersBy refused (Err c.in_err-make_room.field-0.0)) same c.in_err-make_room.ensures.refuses.answers);
      stores = λ fresh none.
          let untouched = unless before after failed ((g.F.Flash.state new.flash) ≡ (g.F.Flash.state c.settle.new.self.flash))
          (calls_after before settled after failed c.in_ok-settle.ensures.mounts.part.calls.keeps_driver c.in_err-make_room.ensures.part.calls) (old.mounted.mounted fresh) none c.in_err-make_room.ensures.refuses.untouched in
          let settles : (g.F.Flash.state c.settle.new.self.flash) ≡ (g.F.Flash.state old.flash) = λ i. g.F.Flash.state ((c.in_ok-settle.ensures.nothing fresh).1 i).flash in
          store_costs old.at.used new.at.used old.numbers new.numbers (g.F.Flash.state old.flash) (g.F.Flash.state new.flash) (g.met.F.Flash.shape old.flash) old.end (length c.args.bytes.now) old.at.sector old.at.one_of_two
          old.is_stale old.has_mounted new.is_stale new.has_mounted (inl (untouched ∙ settles))
          _ (past_is old.is_stale old.has_mounted fresh old.at old.numbers (g.F.Flash.state old.flash) old.end old.least old.distinct old.mounted (length c.args.bytes.now));
    }

pub returns-in_err-make_room-clause-even : goal.returns-in_err-make_room-clause-even
returns-in_err-make_room-clause-even g c =
    let old = c.args.self.now in
    let settled = c.settle.new.self in
    let new = c.make_room.new.self in
    let same = used_same settled.at.used old.at.used settled.least old.least c.in_ok-settle.ensures.mounts.part.calls.keeps_driver.room in
    let told : c.from_residual-in_err-make_room.result ≡ Err c.in_err-make_room.field-0.0 = grind arith in
    unless_map c.from_residual-in_err-make_room.result (StaysEven settled.at.used (g.F.Flash.state settled.flash) (g.F.Flash.state new.flash)) (StaysEven old.at.used (g.F.Flash.state old.flash) (g.F.Flash.state new.flash))
    (λ two. even_on old.at.used (g.F.Flash.state old.flash) (g.F.Flash.state settled.flash) (g.F.Flash.state new.flash) c.in_ok-settle.ensures.even
    (subst (λ n. StaysEven n (g.F.Flash.state settled.flash) (g.F.Flash.state new.flash)) same two))
    (subst (λ (result : Result (Unit {0}) BlockFault). UnlessFlash result (StaysEven settled.at.used (g.F.Flash.state settled.flash) (g.F.Flash.state new.flash))) (sym told) c.in_err-make_room.ensures.even)

pub returns-clause-changes : goal.returns-clause-changes
returns-clause-changes g c =
    let before = uncounted_of g.F.Flash.state c.args.self.now in
    let settled = uncounted_of g.F.Flash.state c.settle.new.self in
    let roomy = uncounted_of g.F.Flash.state c.make_room.new.self in
    let after = uncounted_of g.F.Flash.state c.append.new.self in
    changes_on before roomy after c.args.block (record_content c.args.valid c.args.bytes.now) (length c.args.bytes.now) c.append.result
    (values_on before settled roomy c.in_ok-settle.ensures.mounts.values c.in_ok-make_room.ensures.values) c.append.ensures.never_full c.append.ensures.changes

pub returns-clause-part : goal.returns-clause-part
returns-clause-part g c =
    let before = uncounted_of g.F.Flash.state c.args.self.now in
    let settled = uncounted_of g.F.Flash.state c.settle.new.self in
    let roomy = uncounted_of g.F.Flash.state c.make_room.new.self in
    let after = uncounted_of g.F.Flash.state c.append.new.self in
    record {
      calls = calls_after before roomy after c.append.result (more_calls before settled roomy c.in_ok-settle.ensures.mounts.part.calls.keeps_driver c.in_ok-make_room.ensures.part.calls.keeps_driver) c.append.ensures.part.calls;
      uncounted = search rules;
      settles = search rules;
    }

pub returns-clause-stored : goal.returns-clause-stored
returns-clause-stored g c =
    let old = c.args.self.now in
    let roomy = c.make_room.new.self in
    let new = c.append.new.self in
    let before = uncounted_of g.F.Flash.state old in
    let settled = uncounted_of g.F.Flash.state c.settle.new.self in
    let after = uncounted_of g.F.Flash.state new in
    let same = same_refusal before settled c.args.block (length c.args.bytes.now) c.in_ok-settle.ensures.mounts.part.calls.keeps_driver.numbers c.in_ok-settle.ensures.mounts.part.calls.keeps_driver.room c.in_ok-settle.ensures.mounts.values (c.in_ok-settle.ensures.mounts.stuck c.args.block (length c.args.bytes.now)) in
    record {
      answers = not_refused (record_refusal before c.args.block (length c.args.bytes.now)) c.append.result (sym same ∙ c.in_ok-make_room.ensures.refuses.answers) c.append.ensures.never_full;
      stores = λ fresh none. (let made = subst (λ (fee : Fee g.row.F.Denot g.F.Flash). MakesRoom fee.at.used fee.end (live_pages (uncounted_of g.F.Flash.state fee)) (length c.args.bytes.now) fee.at.sector (g.F.Flash.state fee.flash) (g.F.Flash.state roomy.flash))
          (c.in_ok-settle.ensures.nothing fresh).1 c.in_ok-make_room.ensures.made in
          store_costs old.at.used new.at.used old.numbers new.numbers (g.F.Flash.state old.flash) (g.F.Flash.state new.flash) (g.met.F.Flash.shape old.flash) old.end (length c.args.bytes.now) old.at.sector old.at.one_of_two
          old.is_stale old.has_mounted new.is_stale new.has_mounted
          (unless before after c.append.result (Stores old.at.used old.end (live_pages before) (length c.args.bytes.now) old.at.sector (g.F.Flash.state old.flash) (g.F.Flash.state new.flash))
          (calls_after before (uncounted_of g.F.Flash.state roomy) after c.append.result (more_calls before settled (uncounted_of g.F.Flash.state roomy) c.in_ok-settle.ensures.mounts.part.calls.keeps_driver c.in_ok-make_room.ensures.part.calls.keeps_driver) c.append.ensures.part.calls)
          (old.mounted.mounted fresh) none
          (stored_behind old.at.used old.end (live_pages before) (length c.args.bytes.now) old.at.sector (g.F.Flash.state old.flash) (g.F.Flash.state roomy.flash) (g.F.Flash.state new.flash) made c.append.result c.append.ensures.never_full c.append.ensures.spends))
          _ (past_is old.is_stale old.has_mounted fresh old.at old.numbers (g.F.Flash.state old.flash) old.end old.least old.distinct old.mounted (length c.args.bytes.now)));
    }

pub returns-clause-costs : goal.returns-clause-costs
returns-clause-costs g c =
    let old = c.args.self.now in
    let roomy = c.make_room.new.self in
    let new = c.append.new.self in
    let before = uncounted_of g.F.Flash.state old in
    let settled = uncounted_of g.F.Flash.state c.settle.new.self in
    let after = uncounted_of g.F.Flash.state new in
    put_costs old.at.used new.at.used old.numbers new.numbers (g.F.Flash.state old.flash) (g.F.Flash.state new.flash) (g.met.F.Flash.shape old.flash) old.least old.end (live_pages before) (length c.args.bytes.now) old.at.sector old.at.one_of_two
    old.is_stale old.has_mounted new.is_stale new.has_mounted c.append.result old.mounted.mounted
    (calls_after before (uncounted_of g.F.Flash.state roomy) after c.append.result (more_calls before settled (uncounted_of g.F.Flash.state roomy) c.in_ok-settle.ensures.mounts.part.calls.keeps_driver c.in_ok-make_room.ensures.part.calls.keeps_driver) c.append.ensures.part.calls)
    (λ fresh. stored_behind old.at.used old.end (live_pages before) (length c.args.bytes.now) old.at.sector (g.F.Flash.state old.flash) (g.F.Flash.state roomy.flash) (g.F.Flash.state new.flash)
    (subst (λ (fee : Fee g.row.F.Denot g.F.Flash). MakesRoom fee.at.used fee.end (live_pages (uncounted_of g.F.Flash.state fee)) (length c.args.bytes.now) fee.at.sector (g.F.Flash.state fee.flash) (g.F.Flash.state roomy.flash))
    (c.in_ok-settle.ensures.nothing fresh).1 c.in_ok-make_room.ensures.made) c.append.result c.append.ensures.never_full c.append.ensures.spends)

pub returns-clause-even : goal.returns-clause-even
returns-clause-even g c =
    let old = c.args.self.now in
    let settled = c.settle.new.self in
    let roomy = c.make_room.new.self in
    let new = c.append.new.self in
    let one = used_same settled.at.used old.at.used settled.least old.least c.in_ok-settle.ensures.mounts.part.calls.keeps_driver.room in
    let two = used_same roomy.at.used settled.at.used roomy.least settled.least c.in_ok-make_room.ensures.part.calls.keeps_driver.room in
    unless_any c.append.result (StaysEven old.at.used (g.F.Flash.state old.flash) (g.F.Flash.state new.flash))
    (even_on old.at.used (g.F.Flash.state old.flash) (g.F.Flash.state settled.flash) (g.F.Flash.state new.flash) c.in_ok-settle.ensures.even
    (even_on old.at.used (g.F.Flash.state settled.flash) (g.F.Flash.state roomy.flash) (g.F.Flash.state new.flash)
    (subst (λ n. StaysEven n (g.F.Flash.state settled.flash) (g.F.Flash.state roomy.flash)) one c.in_ok-make_room.ensures.even)
    (subst (λ n. StaysEven n (g.F.Flash.state roomy.flash) (g.F.Flash.state new.flash)) (two ∙ one) c.append.ensures.even)))
