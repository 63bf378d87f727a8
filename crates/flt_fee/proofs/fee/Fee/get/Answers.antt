use Rattle.std.proofs.Common.{rules, ◌≡◌, ap, sym, subst, ◌∙◌, arith}
use Rattle.flt_flash.specs.Calls.{ReadsContent}
use Rattle.flt_flash.specs.Content.{Content, size_of}
use Rattle.flt_flash.specs.declared.blocks.Found.TheVariants.{Bytes}
use Rattle.flt_sector_model.specs.Blocks.{block_value}
use Rattle.flt_fee.proofs.Placed.{valid_read, valid_size}
use Rattle.flt_fee.proofs.fee.Fee.get.Goals as goal

pub returns-in_ok-read_record-in-Some-clause-found : goal.returns-in_ok-read_record-in-Some-clause-found
returns-in_ok-read_record-in-Some-clause-found g c =
    let self = c.settle.new.self in
    subst (λ (content : Content). ReadsContent content (Bytes c.in-Some.place.length) c.args.out.now c.read_record.new.out) (c.in_ok-settle.ensures.mounts.values c.args.block)
    (valid_read self.at self.numbers (g.F.Flash.state self.flash) (g.met.F.Flash.shape self.flash) self.within c.args.block c.in-Some.place c.if-place.true c.in-Some.ensures
    c.args.out.now c.read_record.new.out c.in_ok-read_record-in-Some.ensures.read)

pub returns-in_ok-read_record-in-Some-clause-costs : goal.returns-in_ok-read_record-in-Some-clause-costs
returns-in_ok-read_record-in-Some-clause-costs g c =
    λ fresh none.
    let old = c.args.self.now in
    let self = c.settle.new.self in
    let size = valid_size self.at self.numbers (g.F.Flash.state self.flash) (g.met.F.Flash.shape self.flash) self.within c.args.block c.in-Some.place c.if-place.true c.in-Some.ensures in
    let long : size_of (block_value old.at.used old.numbers (g.F.Flash.state old.flash).image c.args.block) ≡ c.in-Some.place.length = ap size_of (sym (c.in_ok-settle.ensures.mounts.values c.args.block)) ∙ size in
    let stands : (g.F.Flash.state self.flash).operations ≡ (g.F.Flash.state old.flash).operations = λ i. (g.F.Flash.state ((c.in_ok-settle.ensures.nothing fresh).1 i).flash).operations in
    omega (arith, c.in_ok-read_record-in-Some.ensures.operations, long, stands)

pub returns-in_ok-read_record-in-Some-clause-reads : goal.returns-in_ok-read_record-in-Some-clause-reads
returns-in_ok-read_record-in-Some-clause-reads g c = record {
  values = search rules;
  calls = search rules;
  never_full = search rules;
  spent = search rules;
  settled = search rules;
  stale = search rules;
  image = search rules;
}
