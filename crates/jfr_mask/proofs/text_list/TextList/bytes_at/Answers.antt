use Rattle.std.proofs.Common.{◌≡◌, ◌≤◌, ℕ, Some, ap, length, rules, slice_get, subst, sym, ◌∙◌}
use Rattle.std.proofs.lemmas.Option.{slice_get-get_or}
use Rattle.jfr_mask.specs.Pieces.{chars_in, pieces}
use Rattle.jfr_mask.proofs.PieceLaws.{no_piece, piece_got}
use Rattle.jfr_mask.proofs.text_list.TextList.bytes_at.Goals as goal

pub returns-in_err-end-clause-text : goal.returns-in_err-end-clause-text
returns-in_err-end-clause-text c =
    let list = c.self.inside in
    let past : length list.ends.items ≤ c.args.at = subst (λ z. length z ≤ c.args.at) c.deref.ensures.value c.in_err-end.ensures.lookup.3 in
    ap chars_in c.from_residual.ensures ∙ (no_piece (pieces 0 list.ends.items list.bytes.items) list.ends.items list.bytes.items c.args.at c.self.invariant past ∙ ap (λ z. slice_get z c.args.at) c.self.view_is)

pub returns-clause-text : goal.returns-clause-text
returns-clause-text c =
    let list = c.self.inside in
    let end : ℕ = c.in_ok-end.field-0.now in
    let there : slice_get list.ends.items c.args.at ≡ Some c.in_ok-end.field-0.now = ap (λ z. slice_get z c.args.at) (sym c.deref.ensures.value)
    ∙ (slice_get-get_or c.deref.result.now c.args.at c.in_ok-end.field-0.now c.in_ok-end.ensures.lookup.3.0 ∙ ap Some (sym c.in_ok-end.ensures.lookup.1)) in
    (piece_got (pieces 0 list.ends.items list.bytes.items) list.ends.items list.bytes.items c.args.at c.start_of.result c.in_ok-end.field-0.now c.self.invariant there (search rules)
    c.get-2.result c.deref-2.result.now c.deref-2.ensures.value c.get-2.ensures.lookup.0).0
    ∙ ap (λ z. slice_get z c.args.at) c.self.view_is

pub returns-clause-utf8 : goal.returns-clause-utf8
returns-clause-utf8 c =
    let list = c.self.inside in
    let there : slice_get list.ends.items c.args.at ≡ Some c.in_ok-end.field-0.now = ap (λ z. slice_get z c.args.at) (sym c.deref.ensures.value)
    ∙ (slice_get-get_or c.deref.result.now c.args.at c.in_ok-end.field-0.now c.in_ok-end.ensures.lookup.3.0 ∙ ap Some (sym c.in_ok-end.ensures.lookup.1)) in
    (piece_got (pieces 0 list.ends.items list.bytes.items) list.ends.items list.bytes.items c.args.at c.start_of.result c.in_ok-end.field-0.now c.self.invariant there (search rules)
    c.get-2.result c.deref-2.result.now c.deref-2.ensures.value c.get-2.ensures.lookup.0).1
