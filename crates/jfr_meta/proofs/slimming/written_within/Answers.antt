use Rattle.std.proofs.Common.{◌≡◌, ◌+◌, ap, ◌∙◌, arith, length, length-append}
use Rattle.std.specs.Prelude.{Some}
use Rattle.std.specs.List.{flat_map}
use Rattle.jfr_base.specs.Integer.{spell}
use Rattle.jfr_meta.specs.Written.{body_bytes, record_bytes, table_bytes, text_bytes, tree_bytes}
use Rattle.jfr_meta.proofs.ReadBack.{read_back}
use Rattle.jfr_meta.proofs.WithinLaws.{no_room, some_room, record_measured}
use Rattle.jfr_meta.proofs.WrittenLaws.{body_measured, record_written}
use Rattle.jfr_meta.proofs.slimming.written_within.Goals as goal

pub returns-then-size-room-clause-exact : goal.returns-then-size-room-clause-exact
returns-then-size-room-clause-exact c root e =
    let start = c.args.stamp.start in
    let duration = c.args.stamp.duration in
    let id = c.args.stamp.id in
    let strings = c.args.strings.now in
    let x = record_bytes start duration id strings root in
    let count : c.var_len-4.result ≡ length (spell (length strings)) = c.var_len-4.ensures.exact ∙ ap (λ n. length (spell n)) c.len-count.ensures in
    let tree : length c.args.tree.now ≡ length (tree_bytes root) = ap length e in
    no_room x (length (table_bytes strings root)) c.args.room
    (omega (arith, length-append (flat_map text_bytes strings) (tree_bytes root), body_measured start duration id strings root, record_measured start duration id strings root))

pub returns-clause-exact : goal.returns-clause-exact
returns-clause-exact c root e =
    let start = c.args.stamp.start in
    let duration = c.args.stamp.duration in
    let id = c.args.stamp.id in
    let strings = c.args.strings.now in
    let x = record_bytes start duration id strings root in
    let count : c.var_len-4.result ≡ length (spell (length strings)) = c.var_len-4.ensures.exact ∙ ap (λ n. length (spell n)) c.len-count.ensures in
    let tree : length c.args.tree.now ≡ length (tree_bytes root) = ap length e in
    let size = c.saturating_add-len.result + (6 + (c.var_len.result + c.var_len-2.result + c.var_len-3.result + c.var_len-4.result)) in
    let whole : size ≡ 6 + length (body_bytes start duration id strings root) =
    omega (arith, length-append (flat_map text_bytes strings) (tree_bytes root), body_measured start duration id strings root) in
    ap (λ z. Some z)
    (record_written size start duration id strings root c.in_ok-bytes.bytes.items c.push_opening.new.out.items c.extend_from_slice.new.self.items c.args.tree.now c.in_ok-bytes.ensures.items
    c.in_ok-push_opening.ensures.ok c.in_ok-extend_from_slice.ensures.items e whole)
    ∙ some_room x (length (table_bytes strings root)) c.args.room (omega (arith, length-append (flat_map text_bytes strings) (tree_bytes root)))
    (omega (arith, length-append (flat_map text_bytes strings) (tree_bytes root), body_measured start duration id strings root, record_measured start duration id strings root))

pub returns-clause-read_back : goal.returns-clause-read_back
returns-clause-read_back c root e shallow good =
    let start = c.args.stamp.start in
    let duration = c.args.stamp.duration in
    let id = c.args.stamp.id in
    let strings = c.args.strings.now in
    let count : c.var_len-4.result ≡ length (spell (length strings)) = c.var_len-4.ensures.exact ∙ ap (λ n. length (spell n)) c.len-count.ensures in
    let tree : length c.args.tree.now ≡ length (tree_bytes root) = ap length e in
    let size = c.saturating_add-len.result + (6 + (c.var_len.result + c.var_len-2.result + c.var_len-3.result + c.var_len-4.result)) in
    let whole : size ≡ 6 + length (body_bytes start duration id strings root) =
    omega (arith, length-append (flat_map text_bytes strings) (tree_bytes root), body_measured start duration id strings root) in
    read_back start duration id strings root c.extend_from_slice.new.self.items good shallow (omega (arith, length-append (flat_map text_bytes strings) (tree_bytes root)))
    c.in_ok-push_opening.ensures.texts
    (record_written size start duration id strings root c.in_ok-bytes.bytes.items c.push_opening.new.out.items c.extend_from_slice.new.self.items c.args.tree.now c.in_ok-bytes.ensures.items
    c.in_ok-push_opening.ensures.ok c.in_ok-extend_from_slice.ensures.items e whole)
