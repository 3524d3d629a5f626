use Rattle.std.proofs.Common.{◌≡◌, None, ap, sym, subst, ◌∙◌}
use Rattle.std.specs.Prelude.{codes, option_and_then}
use Rattle.std.specs.Str.{chars}
use Rattle.jfr_filter.specs.Filters.{allows_thread}
use Rattle.jfr_value.specs.Nodes.{node_of}
use Rattle.jfr_chunk.specs.Paths.{follow_while, is_reference, named_field, text_of}
use Rattle.jfr_path.specs.Threads.{Asked, allows_if_named}
use Rattle.jfr_path.proofs.TextVerdictLaws.{first_says, second_says, none_says}
use Rattle.jfr_path.proofs.texts.TextVerdicts.allows_thread_at.Goals as goal

pub returns-in-Some-clause-ok : goal.returns-in-Some-clause-ok
unfolding chars
returns-in-Some-clause-ok c =
    let self = c.args.self.now in
    let holder = subst (λ (z : Asked). node_of c.follow_references-holder.result ≡ follow_while 16 is_reference z.chunk (node_of c.args.thread.now)) c.self.view_is
    c.follow_references-holder.ensures.exact in
    first_says self.filter self.chunk (node_of c.args.thread.now) (node_of c.follow_references-holder.result) holder c.in-Some.allowed (sym c.in_ok-allowed.ensures.ok ∙ c.in-Some.is)

pub returns-in-Some-2-clause-ok : goal.returns-in-Some-2-clause-ok
unfolding chars
returns-in-Some-2-clause-ok c =
    let self = c.args.self.now in
    let holder = subst (λ (z : Asked). node_of c.follow_references-holder.result ≡ follow_while 16 is_reference z.chunk (node_of c.args.thread.now)) c.self.view_is
    c.follow_references-holder.ensures.exact in
    let same = c.in_ok-allowed.ensures.same in
    let second = ap (λ (z : Asked). allows_if_named z.filter (option_and_then (text_of z.chunk) (named_field z.chunk (codes "osName") (node_of c.follow_references-holder.result)))) (sym same)
    ∙ (sym c.in_ok-allowed-2.ensures.ok ∙ c.in-Some-2.is) in
    second_says self.filter self.chunk (node_of c.args.thread.now) (node_of c.follow_references-holder.result) holder c.in-Some-2.allowed (sym c.in_ok-allowed.ensures.ok ∙ c.in_default.is) second

pub returns-clause-ok : goal.returns-clause-ok
unfolding chars
returns-clause-ok c =
    let self = c.args.self.now in
    let holder = subst (λ (z : Asked). node_of c.follow_references-holder.result ≡ follow_while 16 is_reference z.chunk (node_of c.args.thread.now)) c.self.view_is
    c.follow_references-holder.ensures.exact in
    let same = c.in_ok-allowed.ensures.same in
    let second = ap (λ (z : Asked). allows_if_named z.filter (option_and_then (text_of z.chunk) (named_field z.chunk (codes "osName") (node_of c.follow_references-holder.result)))) (sym same)
    ∙ (sym c.in_ok-allowed-2.ensures.ok ∙ c.in_default-2.is) in
    let last = ap (λ (z : Asked). allows_thread z.filter None) (c.self-2.view_is ∙ (c.in_ok-allowed-2.ensures.same ∙ same)) in
    c.allows_thread.ensures ∙ (last ∙ none_says self.filter self.chunk (node_of c.args.thread.now) (node_of c.follow_references-holder.result) holder
    (sym c.in_ok-allowed.ensures.ok ∙ c.in_default.is) second)
