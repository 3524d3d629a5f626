use Rattle.std.proofs.Common.{◌∙◌, ap, subst, sym, Err, IsTrue}
use Rattle.jfr_outside.specs.World.{IfKnown}
use Rattle.jfr_verify.specs.Comparing.{InputRead}
use Rattle.jfr_verify.specs.Outputs.{AreOutputs}
use Rattle.jfr_verify.proofs.FileLaws.{no_receipts, no_output, input_compared, lacks_receipts, lacks_output, lacks_input}
use Rattle.jfr_verify.proofs.stream.verify_files.Goals as goal

pub returns-in-Err-clause-contents : goal.returns-in-Err-clause-contents
returns-in-Err-clause-contents g c =
    no_receipts c.args.filter.now c.args.names.input.now c.args.names.output.now c.args.names.receipt.now c.in-Err.fault c.of_receipts.result (g.P.Place.state c.args.place.now).contents
    (g.P.Place.state c.read_file.new.place).contents c.of_receipts.ensures c.in-Err.ensures.contents

pub returns-in-Err-read_outputs-clause-contents : goal.returns-in-Err-read_outputs-clause-contents
returns-in-Err-read_outputs-clause-contents g c =
    no_output c.args.filter.now c.args.names.input.now c.args.names.output.now c.args.names.receipt.now c.in-Ok.receipts c.in-Err-read_outputs.verdict (g.P.Place.state c.args.place.now).contents
    (g.P.Place.state c.read_file.new.place).contents (g.P.Place.state c.read_outputs.new.place).contents c.in-Ok.ensures.bound c.in-Ok.ensures.contents c.in-Err-read_outputs.ensures.contents

pub returns-clause-contents : goal.returns-clause-contents
returns-clause-contents g c =
    let s = c.new-comparer.result in
    let x = c.compare_input.result in
    let filter = c.new-comparer.ensures.filter in
    let outputs = c.new-comparer.ensures.outputs ∙ c.deref.ensures.value in
    let receipts = c.new-comparer.ensures.receipts ∙ c.deref-2.ensures.value in
    input_compared c.args.filter.now c.args.names.input.now c.args.names.output.now c.args.names.receipt.now c.in-Ok.receipts c.in-Ok-read_outputs.outputs x (g.P.Place.state c.args.place.now).contents
    (g.P.Place.state c.read_file.new.place).contents (g.P.Place.state c.read_outputs.new.place).contents
    (g.P.Place.state c.compare_input.new.place).contents c.in-Ok.ensures.bound c.in-Ok.ensures.contents c.in-Ok-read_outputs.ensures.contents
    (λ qs h.
    subst (λ f. IfKnown (g.P.Place.state c.read_outputs.new.place).contents (g.P.Place.state c.compare_input.new.place).contents (InputRead f c.args.names.input.now qs c.in-Ok.receipts.items x))
    filter
    (subst (λ z. IfKnown (g.P.Place.state c.read_outputs.new.place).contents (g.P.Place.state c.compare_input.new.place).contents (InputRead s.filter.now c.args.names.input.now qs z x)) receipts
    (c.compare_input.ensures.contents qs (subst (λ z. AreOutputs z qs) (sym outputs) h))))

pub returns-in-Err-clause-undecided : goal.returns-in-Err-clause-undecided
returns-in-Err-clause-undecided g c = λ s e.
    lacks_receipts c.args.filter.now c.args.names.input.now c.args.names.output.now c.args.names.receipt.now c.in-Err.fault c.of_receipts.result
    (g.P.Place.state c.args.place.now).contents c.of_receipts.ensures e (λ q. c.in-Err.ensures.steady s (ap Err q))

pub returns-in-Err-read_outputs-clause-undecided : goal.returns-in-Err-read_outputs-clause-undecided
returns-in-Err-read_outputs-clause-undecided g c = λ s e.
    lacks_output c.args.filter.now c.args.names.input.now c.args.names.output.now c.args.names.receipt.now c.in-Ok.receipts (g.P.Place.state c.args.place.now).contents
    (g.P.Place.state c.read_file.new.place).contents c.in-Ok.ensures.bound c.in-Ok.ensures.contents
    (c.in-Err-read_outputs.ensures.steady (subst IsTrue (sym c.in-Ok.ensures.same) s) (ap Err e))

pub returns-clause-undecided : goal.returns-clause-undecided
returns-clause-undecided g c = λ s e.
    lacks_input c.args.filter.now c.args.names.input.now c.args.names.output.now c.args.names.receipt.now c.in-Ok.receipts c.in-Ok-read_outputs.outputs (g.P.Place.state c.args.place.now).contents
    (g.P.Place.state c.read_file.new.place).contents (g.P.Place.state c.read_outputs.new.place).contents c.in-Ok.ensures.bound c.in-Ok.ensures.contents c.in-Ok-read_outputs.ensures.contents
    (c.compare_input.ensures.steady (subst IsTrue (sym (c.in-Ok-read_outputs.ensures.counts.same ∙ c.in-Ok.ensures.same)) s) e)
