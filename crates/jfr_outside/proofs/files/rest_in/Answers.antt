use Rattle.std.proofs.Common.{◌≡◌, ◌++◌, List, ℕ, ap, sym, ◌∙◌, arith, Some, None}
use Rattle.std.proofs.lemmas.Str.Pattern.{strip_prefix_char, contains_char}
use Rattle.jfr_outside.specs.World.{slice_of}
use Rattle.jfr_outside.proofs.NameLaws.{not_in_front, rest_is_text, no_slash, rest_by, is_plain_without, not_plain_with}
use Rattle.jfr_outside.proofs.files.rest_in.Goals as goal

pub returns-in_err-strip_prefix-clause-exact : goal.returns-in_err-strip_prefix-clause-exact
returns-in_err-strip_prefix-clause-exact c = ap slice_of c.from_residual.ensures ∙ sym (not_in_front c.args.folder.now c.args.name.now c.in_err-strip_prefix.ensures.cases)

pub returns-in_err-rest-clause-exact : goal.returns-in_err-rest-clause-exact
returns-in_err-rest-clause-exact c =
    let front = c.in_ok-strip_prefix.ensures.cases in
    let is : c.args.name.now ≡ c.args.folder.now ++ c.in_ok-strip_prefix.field-0.now = front.1.1 ∙ ap (λ (l : List ℕ). c.args.folder.now ++ l) (sym front.2) in
    ap slice_of c.from_residual-in_err-rest.ensures ∙ sym
    (no_slash c.args.folder.now c.args.name.now c.in_ok-strip_prefix.field-0.now is (strip_prefix_char 47 c.in_ok-strip_prefix.field-0.now None c.in_err-rest.ensures.cases (omega arith)))

pub returns-then-contains-clause-exact : goal.returns-then-contains-clause-exact
returns-then-contains-clause-exact c =
    let front = c.in_ok-strip_prefix.ensures.cases in
    let is : c.args.name.now ≡ c.args.folder.now ++ c.in_ok-strip_prefix.field-0.now = front.1.1 ∙ ap (λ (l : List ℕ). c.args.folder.now ++ l) (sym front.2) in
    let at = (contains_char 47 c.in_ok-rest.rest.now c.contains.result c.contains.ensures.cases (omega arith)).0 c.if-contains.true in
    sym (rest_by c.args.folder.now c.args.name.now c.in_ok-strip_prefix.field-0.now c.in_ok-rest.rest.now _ is
    (strip_prefix_char 47 c.in_ok-strip_prefix.field-0.now (Some c.in_ok-rest.rest) c.in_ok-rest.ensures.cases (omega arith)) (not_plain_with c.in_ok-rest.rest.now at.0 at.1 at.2))

pub returns-clause-exact : goal.returns-clause-exact
returns-clause-exact c =
    let front = c.in_ok-strip_prefix.ensures.cases in
    let is : c.args.name.now ≡ c.args.folder.now ++ c.in_ok-strip_prefix.field-0.now = front.1.1 ∙ ap (λ (l : List ℕ). c.args.folder.now ++ l) (sym front.2) in
    let with = (contains_char 47 c.in_ok-rest.rest.now c.contains.result c.contains.ensures.cases (omega arith)).1 in
    sym (rest_by c.args.folder.now c.args.name.now c.in_ok-strip_prefix.field-0.now c.in_ok-rest.rest.now _ is
    (strip_prefix_char 47 c.in_ok-strip_prefix.field-0.now (Some c.in_ok-rest.rest) c.in_ok-rest.ensures.cases (omega arith))
    (is_plain_without c.in_ok-rest.rest.now (λ k small same. let t = with k small same in cc)))

pub returns-clause-text : goal.returns-clause-text
returns-clause-text c =
    let front = c.in_ok-strip_prefix.ensures.cases in
    let is : c.args.name.now ≡ c.args.folder.now ++ c.in_ok-strip_prefix.field-0.now = front.1.1 ∙ ap (λ (l : List ℕ). c.args.folder.now ++ l) (sym front.2) in
    rest_is_text c.args.folder.now c.args.name.now c.in_ok-strip_prefix.field-0.now c.in_ok-rest.rest.now c.utf8.name is
    (strip_prefix_char 47 c.in_ok-strip_prefix.field-0.now (Some c.in_ok-rest.rest) c.in_ok-rest.ensures.cases (omega arith))
