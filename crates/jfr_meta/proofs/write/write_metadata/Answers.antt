use Rattle.std.proofs.Common.{◌≡◌, ◌+◌, ap, arith, ◌∙◌, length, refl}
use Rattle.jfr_base.specs.Integer.{spell}
use Rattle.jfr_meta.specs.Written.{body_bytes, tree_bytes}
use Rattle.jfr_meta.proofs.WrittenLaws.{record_written, body_measured}
use Rattle.jfr_meta.proofs.ReadBack.{read_back}
use Rattle.jfr_meta.proofs.write.write_metadata.Goals as goal

pub returns-clause-read_back : goal.returns-clause-read_back
returns-clause-read_back c =
    let start = c.args.start in
    let duration = c.args.duration in
    let id = c.args.id in
    let strings = c.args.strings.now in
    let root = c.args.root.now in
    let size = c.metadata_len.result + (6 + (c.var_len.result + c.var_len-2.result + c.var_len-3.result + c.var_len-4.result)) in
    let count : c.var_len-4.result ≡ length (spell (length strings)) = c.var_len-4.ensures.exact ∙ ap (λ n. length (spell n)) c.len-count.ensures in
    let whole : size ≡ 6 + length (body_bytes start duration id strings root) = omega (arith, body_measured start duration id strings root) in
    read_back start duration id strings root c.push_element.new.out.items c.requires.indices c.requires.depth c.requires.size c.in_ok-push_opening.ensures.texts
    (record_written size start duration id strings root c.in_ok-out.out.items c.push_opening.new.out.items c.push_element.new.out.items
    (tree_bytes root) c.in_ok-out.ensures.items c.in_ok-push_opening.ensures.ok c.in_ok-push_element.ensures.ok refl whole)
