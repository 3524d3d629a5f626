use Rattle.std.proofs.Common.{◌≡◌, ◌≤◌, ◌∙◌, List, ℕ, arith, length, refl, sym, subst}
use Rattle.std.specs.Prelude.{Option, Some, None, Vec, option_map, if◌then◌else◌, nat_lt, nat_le, ◌&&◌, ◌^◌}
use Rattle.std.specs.List.{AllByRecursion}
use Rattle.std.specs.declared.alloc.Global.{Global}
use Rattle.jfr_meta.specs.Held.{body_in}
use Rattle.jfr_meta.specs.Slimmed.{slim_body, slim_in}
use Rattle.jfr_meta.specs.Stays.{is_in}
use Rattle.jfr_meta.specs.Trees.{Tree}
use Rattle.jfr_meta.specs.Written.{HasIndices, IsText, ReadsBack, depth, record_bytes, table_bytes, tree_bytes}
use Rattle.jfr_meta.proofs.HeldLaws.{if_ok}
use Rattle.jfr_meta.proofs.RewriteLaws.{slim_bytes, slim_words}
use Rattle.jfr_meta.proofs.WithinLaws.{slim_levels, slim_below, slim_answer, if_ok_some}
use Rattle.jfr_meta.proofs.slimming.slim.Goals as goal

pub returns-clause-exact : goal.returns-clause-exact
returns-clause-exact c =
    let b = body_in c.args.metadata.now in
    let stays = is_in c.args.stay.now in
    let wrote = c.in_ok-push_root.ensures.ok in
    let words = c.words.ensures ∙ slim_words b stays _ c.push_root.new.tree c.in_ok-new.ensures.words c.new-2.ensures.items wrote in
    let bytes = c.deref.ensures.value ∙ slim_bytes b stays _ c.push_root.new.tree c.in_ok-new.ensures.words c.new-2.ensures.items wrote in
    let root = (slim_body b stays).root in
    let strings = c.words.result.now in
    let fits : Tree → Option (List ℕ) = λ (r : Tree). if nat_lt (length (table_bytes strings r)) (2 ^ 29) && nat_le (length (record_bytes b.start b.duration b.id strings r)) c.args.room then Some
    (record_bytes b.start b.duration b.id strings r) else None in
    if_ok (λ (found : Option (Vec ℕ Global)). (r : Tree) → c.deref.result.now ≡ tree_bytes r → option_map (λ v. v.items) found ≡ fits r)
    (λ (found : Option (Vec ℕ Global)). option_map (λ v. v.items) found ≡ slim_in b stays c.args.room) c.written_within.result
    (λ found h. h root bytes ∙ slim_answer b stays strings root c.args.room words refl) c.written_within.ensures.exact

pub returns-clause-texts : goal.returns-clause-texts
returns-clause-texts c =
    let b = body_in c.args.metadata.now in
    let stays = is_in c.args.stay.now in
    let words = c.words.ensures ∙ slim_words b stays _ c.push_root.new.tree c.in_ok-new.ensures.words c.new-2.ensures.items c.in_ok-push_root.ensures.ok in
    if_ok_some (λ (v : Vec ℕ Global). AllByRecursion IsText c.words.result.now) (λ (v : Vec ℕ Global). AllByRecursion IsText (slim_body b stays).strings) c.written_within.result
    (λ v a. subst (AllByRecursion IsText) words a) c.written_within.ensures.texts

pub returns-clause-read_back : goal.returns-clause-read_back
returns-clause-read_back c =
    let b = body_in c.args.metadata.now in
    let stays = is_in c.args.stay.now in
    let wrote = c.in_ok-push_root.ensures.ok in
    let words = c.words.ensures ∙ slim_words b stays _ c.push_root.new.tree c.in_ok-new.ensures.words c.new-2.ensures.items wrote in
    let bytes = c.deref.ensures.value ∙ slim_bytes b stays _ c.push_root.new.tree c.in_ok-new.ensures.words c.new-2.ensures.items wrote in
    let root = (slim_body b stays).root in
    let strings = c.words.result.now in
    let shallow : depth root ≤ 16 = (let h : depth root ≤ depth b.root = slim_levels b stays in omega arith) in
    let good : HasIndices (length strings) root = subst (λ z. HasIndices (length z) root) (sym words) (slim_below b stays) in
    if_ok_some (λ (v : Vec ℕ Global). (r : Tree) → c.deref.result.now ≡ tree_bytes r → depth r ≤ 16 → HasIndices (length strings) r → ReadsBack v.items b.start b.duration b.id strings r)
    (λ (v : Vec ℕ Global). ReadsBack v.items b.start b.duration b.id (slim_body b stays).strings root) c.written_within.result
    (λ v a. subst (λ z. ReadsBack v.items b.start b.duration b.id z root) words (a root bytes shallow good)) c.written_within.ensures.read_back
