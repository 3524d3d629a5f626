use Rattle.std.proofs.Common.{List, ℕ, ◌≡◌, ◌++◌, ◌∙◌, ap, arith, codes, subst, sym, OnOk, append_assoc}
use Rattle.std.specs.Str.{chars}
use Rattle.jfr_layout.proofs.Lists.{item_at}
use Rattle.jfr_show.specs.Texts.{quoted, newline}
use Rattle.jfr_show.specs.Metadata.{categories_line}
use Rattle.jfr_show.proofs.ListingLaws.{categories_shown, pieces_more}
use Rattle.jfr_show.proofs.metadata.show_categories.Goals as goal

pub loop-category-preserved : goal.loop-category-preserved
loop-category-preserved c =
    let now = c.loop-category.out in
    let i = c.loop-category.category-index in
    let category : List ℕ = c.category-item.result in
    let at = item_at c.in-Some.others.now i category (omega arith) c.category-item.is in
    let text : chars c.as_str-in-loop-category.result.now ≡ category = c.as_str-in-loop-category.ensures in
    let next : c.push_quoted-in-loop-category.new.out ≡ now ++ (codes ", " ++ quoted category) = c.in_ok-push_quoted-2.ensures.ok
    ∙ (ap (λ z. c.push_ascii-in-loop-category.new.self ++ quoted z) text ∙ (ap (λ z. z ++ quoted category) c.in_ok-push_ascii-2.ensures.ok ∙ append_assoc now (codes ", ") (quoted category))) in
    pieces_more (λ t. codes ", " ++ quoted t) c.in-Some.others.now i category c.push_quoted.new.out now c.push_quoted-in-loop-category.new.out at c.loop-category.invariant next

pub returns : goal.returns
returns c =
    let first : List ℕ = c.in-Some.first.now in
    let quotes : c.push_quoted.new.out ≡ c.push_ascii.new.self ++ quoted first = c.in_ok-push_quoted.ensures.ok ∙ ap (λ z. c.push_ascii.new.self ++ quoted z) c.as_str.ensures in
    let e : c.loop-category.out ++ newline ≡ c.args.out.now ++ categories_line c.args.categories.now = categories_shown c.args.categories.now c.in-Some.others.now first c.loop-category.category-index
    c.args.out.now c.push_ascii.new.self c.push_quoted.new.out c.loop-category.out (sym c.as_slice.ensures ∙ c.in-Some.ensures.cases.0) c.loop-category-test.false c.in_ok-push_ascii.ensures.ok
    quotes c.loop-category.invariant in
    record { ok = subst (λ z. OnOk c.push_ascii-2.result (c.push_ascii-2.new.self ≡ z)) e c.push_ascii-2.ensures.ok }
