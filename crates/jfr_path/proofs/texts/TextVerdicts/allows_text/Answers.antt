use Rattle.std.proofs.Common.{◌≡◌, None, ap, sym, subst, ◌∙◌}
use Rattle.jfr_text.specs.Spans.{content_of}
use Rattle.jfr_value.specs.Nodes.{node_of}
use Rattle.jfr_chunk.specs.Paths.{text_of}
use Rattle.jfr_path.specs.Threads.{Asked, allows_if_named}
use Rattle.jfr_path.proofs.TextLaws.{text_there, no_text}
use Rattle.jfr_path.proofs.TextVerdictLaws.{text_kept, texts_next}
use Rattle.jfr_path.proofs.texts.TextVerdicts.allows_text.Goals as goal

pub returns-in_default-clause-ok : goal.returns-in_default-clause-ok
returns-in_default-clause-ok c =
    let self = c.self.inside in
    let none = no_text self.chunk.now (node_of c.args.name.now) (node_of c.follow_keys-last.result) c.follow_keys-last.ensures.exact c.in_default.ensures in
    subst (λ (z : Asked). None ≡ allows_if_named z.filter (text_of z.chunk (node_of c.args.name.now))) c.self.view_is (ap (allows_if_named self.filter.now) none)

pub returns-in-Some-get-clause-ok : goal.returns-in-Some-get-clause-ok
returns-in-Some-get-clause-ok c =
    let self = c.self.inside in
    let last = node_of c.follow_keys-last.result in
    let text = text_there self.chunk.now (node_of c.args.name.now) last c.follow_keys-last.ensures.exact (content_of c.in-Some.span) c.in-Some.ensures in
    let kept = text_kept self.filter.now self.chunk.now self.verdicts last (content_of c.in-Some.span) c.in-Some-get.said.now c.self.invariant (sym c.in-Some.ensures) c.in-Some-get.ensures.value in
    subst (λ (z : Asked). c.in-Some-get.said.now ≡ allows_if_named z.filter (text_of z.chunk (node_of c.args.name.now))) c.self.view_is (kept ∙ ap (allows_if_named self.filter.now) text)

pub invariant_of-self-2 : goal.invariant_of-self-2
invariant_of-self-2 c =
    let self = c.self.inside in
    texts_next self.filter.now self.chunk.now self.verdicts c.insert.new.self (node_of c.follow_keys-last.result) (content_of c.in-Some.span) c.in_ok-said.said c.self.invariant
    (sym c.in-Some.ensures) c.in_ok-said.ensures c.in_ok-insert.ensures.updates

pub returns-clause-ok : goal.returns-clause-ok
returns-clause-ok c =
    let self = c.self.inside in
    let text = text_there self.chunk.now (node_of c.args.name.now) (node_of c.follow_keys-last.result) c.follow_keys-last.ensures.exact (content_of c.in-Some.span) c.in-Some.ensures in
    subst (λ (z : Asked). c.in_ok-said.said ≡ allows_if_named z.filter (text_of z.chunk (node_of c.args.name.now))) c.self.view_is (c.in_ok-said.ensures ∙ ap (allows_if_named self.filter.now) text)
