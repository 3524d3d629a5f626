use Rattle.std.proofs.Common.{◌≤◌, Some, length, List, ℕ, map, sym, encode_utf8_all, ◌∙◌, ap, arith}
use Rattle.std.specs.Prelude.{slice_get}
use Rattle.std.proofs.lemmas.List.{take_all}
use Rattle.std.proofs.lemmas.Option.{slice_get-get_or}
use Rattle.jfr_split.proofs.Listed.{joined_in, listed_more, sorted_files}
use Rattle.jfr_split.proofs.listing.joined_files.Goals as goal

pub loop-name-preserved : goal.loop-name-preserved
loop-name-preserved c =
    let items = c.as_slice-name-items.result.now in
    let index = c.loop-name.name-index in
    let item = slice_get-get_or items index c.name-item.result (omega arith) ∙ ap Some (sym c.name-item.is ∙ sym c.as_str.ensures) in
    let at = ap (λ z. slice_get z index) (sym c.as_slice-name-items.ensures) ∙ item in
    listed_more c.args.folder.now c.args.names.now index c.as_str.result.now c.loop-name.files.items c.push_file.new.files.items
    (omega (arith, ap length c.as_slice-name-items.ensures)) at c.as_str.utf8 c.loop-name.invariant c.in_ok-push_file.ensures

pub returns : goal.returns
returns c = λ files listing.
    let words = c.args.names.now in
    let past : length words ≤ c.loop-name.name-index = omega (arith, ap length c.as_slice-name-items.ensures) in
    sorted_files c.args.folder.now files words c.loop-name.files.items c.sort.new.self.items listing
    (c.loop-name.invariant ∙ ap (λ (x : List (List ℕ)). joined_in c.args.folder.now (map encode_utf8_all x)) (take_all c.loop-name.name-index words past))
    c.in_ok-sort.ensures.permutation c.in_ok-sort.ensures.sorted
