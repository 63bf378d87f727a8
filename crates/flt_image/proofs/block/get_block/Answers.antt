use Rattle.std.proofs.Common.{◌∙◌, sym, ap}
use Rattle.flt_store_model.specs.declared.part.Part.TheVariants.{Summary, States, Entry}
use Rattle.flt_store_model.specs.Form.{part_length}
use Rattle.flt_store_model.specs.Layout.{part_of_block}
use Rattle.flt_store_model.proofs.Sizes.{refused_by_size}
use Rattle.flt_image.proofs.Takings.{refuses, states_kept}
use Rattle.flt_image.proofs.block.get_block.Goals as goal

pub returns-then-bytes-byte_length-clause-taken : goal.returns-then-bytes-byte_length-clause-taken
returns-then-bytes-byte_length-clause-taken c =
    refuses c.args.into.now
    (refused_by_size c.args.config.now (part_of_block c.args.id) c.args.bytes.now c.args.into.now
    (λ is. c.if-bytes-byte_length.true (is ∙ sym (c.byte_length.ensures.value ∙ ap part_length c.part_of-part.ensures))))

pub returns-in-Summary-clause-states : goal.returns-in-Summary-clause-states
returns-in-Summary-clause-states c = states_kept c.args.config.now Summary c.args.bytes.now c.args.into.now c.take_summary.new.into c.take_summary.result c.take_summary.ensures

pub returns-in-States-clause-states : goal.returns-in-States-clause-states
returns-in-States-clause-states c = states_kept c.args.config.now (States c.in-States.first) c.args.bytes.now c.args.into.now c.take_states.new.into c.take_states.result c.take_states.ensures

pub returns-in-Entry-clause-states : goal.returns-in-Entry-clause-states
returns-in-Entry-clause-states c = states_kept c.args.config.now (Entry c.in-Entry.place) c.args.bytes.now c.args.into.now c.take_entry.new.into c.take_entry.result c.take_entry.ensures
