use Rattle.std.proofs.Common.{◌≡◌, ap, sym, subst, ◌∙◌, map, ◌∷◌, [], ◌&&◌, false, true}
use Rattle.jfr_filter.specs.declared.side.Side.TheVariants.{IncludeEvents, ExcludeEvents, IncludeCategories, ExcludeCategories}
use Rattle.jfr_filter.specs.Filters.{allows_texts}
use Rattle.jfr_meta.specs.Attributes.{text_at}
use Rattle.jfr_path.specs.Strings.{Options, is_named_allowed}
use Rattle.jfr_path.proofs.StringLaws.{class_by_names}
use Rattle.jfr_path.proofs.allowed.is_allowed.Goals as goal

pub returns-then-not-branch-clause-ok : goal.returns-then-not-branch-clause-ok
returns-then-not-branch-clause-ok c = λ g texts names categories.
    (let class = c.args.class.now in
    let by_name : false ≡ allows_texts g IncludeEvents ExcludeEvents (text_at texts class.name ∷ []) =
    subst (λ (o : Options). false ≡ allows_texts o.filter o.include o.exclude (map (text_at o.strings) (class.name ∷ []))) names (sym c.if-not-branch.true ∙ c.in_ok-allow.ensures.ok) in
    ap (λ b. b && allows_texts g IncludeCategories ExcludeCategories (map (text_at texts) class.categories.items)) by_name ∙ sym (class_by_names g texts class))

pub returns-clause-ok : goal.returns-clause-ok
returns-clause-ok c = λ g texts names categories.
    (let class = c.args.class.now in
    let by_name : true ≡ allows_texts g IncludeEvents ExcludeEvents (text_at texts class.name ∷ []) =
    subst (λ (o : Options). true ≡ allows_texts o.filter o.include o.exclude (map (text_at o.strings) (class.name ∷ []))) names (sym c.if-not-branch.false ∙ c.in_ok-allow.ensures.ok) in
    let whole : allows_texts g IncludeCategories ExcludeCategories (map (text_at texts) class.categories.items) ≡ is_named_allowed g texts class =
    ap (λ b. b && allows_texts g IncludeCategories ExcludeCategories (map (text_at texts) class.categories.items)) by_name ∙ sym (class_by_names g texts class) in
    subst (λ (o : Options). c.in_ok-allowed.allowed ≡ allows_texts o.filter o.include o.exclude (map (text_at o.strings) class.categories.items)) categories
    (c.in_ok-allowed.ensures.ok ∙ ap (λ z. allows_texts c.args.categories.now.filter c.args.categories.now.include c.args.categories.now.exclude (map (text_at c.args.categories.now.strings) z))
    c.deref.ensures.value)
    ∙ whole)
