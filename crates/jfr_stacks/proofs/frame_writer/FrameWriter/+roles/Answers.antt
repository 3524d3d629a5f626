use Rattle.std.proofs.Common.{◌<◌, ◌++◌, [], ◌∷◌, ap, codes, length, string_bytes, subst, sym, ◌∙◌}
use Rattle.std.proofs.lemmas.Result.{on_ok_weaker}
use Rattle.jfr_value.specs.Nodes.{node_of}
use Rattle.jfr_stacks.specs.Roles.{of_role}
use Rattle.jfr_stacks.proofs.RoleLaws.{entry_within, in_role, method_found, method_missing, name_found, name_missing, text_of_entry, text_there}
use Rattle.jfr_stacks.proofs.frame_writer.FrameWriter.+roles.Goals as goal

pub push_as-returns-in-Some-get-clause-ok : goal.push_as-returns-in-Some-get-clause-ok
push_as-returns-in-Some-get-clause-ok t c =
    let p = c.args.chunk.now in
    let texts = c.args.self.now.texts in
    let m = text_there p c.args.role (of_role texts c.args.role) c.in-Some.number c.in-Some-get.text.now (in_role p texts c.args.role c.requires.ready.texts) c.in-Some-get.ensures in
    c.in_ok-push_str.ensures.bytes ∙ ap (λ z. string_bytes c.args.out.now ++ z) (sym (m.each (node_of c.args.value.now) (sym c.in-Some.ensures)))

pub push_as-keep-requires : goal.push_as-keep-requires
push_as-keep-requires t c =
    subst (λ z. c.in-Some.number < z) (sym (c.len.ensures ∙ ap length c.pools.ensures)) (entry_within c.args.chunk.now (node_of c.args.value.now) c.in-Some.number (sym c.in-Some.ensures))

pub push_as-returns-clause-ready : goal.push_as-returns-clause-ready
push_as-returns-clause-ready t c =
    let p = c.args.chunk.now in
    let ready = c.in_ok-text.ensures.ready in
    let of_entry = text_of_entry p c.args.role (node_of c.args.value.now) c.in-Some.number (string_bytes c.in_ok-text.text) (sym c.in-Some.ensures) c.in_ok-text.ensures.ok in
    on_ok_weaker c.keep.result (λ right. record { fields = ready.fields; texts = right p of_entry ready.texts }) c.keep.ensures.right

pub push_method-returns-in-Some-clause-ok : goal.push_method-returns-in-Some-clause-ok
push_method-returns-in-Some-clause-ok t c =
    let found = method_found c.args.chunk.now (node_of c.args.frame.now) (node_of c.in-Some.method) (c.in-Some.ensures.exact (codes "method") c.requires.ready.fields.method) in
    on_ok_weaker c.push_as.result (λ w. w ∙ ap (λ z. string_bytes c.args.out.now ++ z) (sym found)) c.push_as.ensures.ok

pub push_method-returns-in_ok-push_str-in-None-clause-ok : goal.push_method-returns-in_ok-push_str-in-None-clause-ok
push_method-returns-in_ok-push_str-in-None-clause-ok t c =
    let missing = method_missing c.args.chunk.now (node_of c.args.frame.now) (c.in-None.ensures.exact (codes "method") c.requires.ready.fields.method) in
    c.in_ok-push_str-in-None.ensures.bytes ∙ ap (λ z. string_bytes c.args.out.now ++ z) (sym missing)

pub push_class-returns-in-Some-clause-ok : goal.push_class-returns-in-Some-clause-ok
push_class-returns-in-Some-clause-ok t c =
    let found =
    name_found c.args.chunk.now (node_of c.args.method.now) (node_of c.in-Some.class) (codes "type") (codes "name" ∷ codes "string" ∷ [])
    (c.in-Some.ensures.exact (codes "type") c.requires.ready.fields.class) in
    on_ok_weaker c.push_as.result (λ w. w ∙ ap (λ z. string_bytes c.args.out.now ++ z) (sym found)) c.push_as.ensures.ok

pub push_class-returns-in-None-clause-ok : goal.push_class-returns-in-None-clause-ok
push_class-returns-in-None-clause-ok t c =
    let missing = name_missing c.args.chunk.now (node_of c.args.method.now) (codes "type") (codes "name" ∷ codes "string" ∷ [])
    (c.in-None.ensures.exact (codes "type") c.requires.ready.fields.class) in
    on_ok_weaker c.push_missing.result (λ w. w ∙ ap (λ z. string_bytes c.args.out.now ++ z) (sym missing)) c.push_missing.ensures.ok

pub push_name-returns-in-Some-clause-ok : goal.push_name-returns-in-Some-clause-ok
push_name-returns-in-Some-clause-ok t c =
    let found = name_found c.args.chunk.now (node_of c.args.named.now) (node_of c.in-Some.name) (codes "name") (codes "string" ∷ [])
    (c.in-Some.ensures.exact (codes "name") c.requires.ready.fields.name) in
    on_ok_weaker c.push_as.result (λ w. w ∙ ap (λ z. string_bytes c.args.out.now ++ z) (sym found)) c.push_as.ensures.ok

pub push_name-returns-in-None-clause-ok : goal.push_name-returns-in-None-clause-ok
push_name-returns-in-None-clause-ok t c =
    let missing = name_missing c.args.chunk.now (node_of c.args.named.now) (codes "name") (codes "string" ∷ []) (c.in-None.ensures.exact (codes "name") c.requires.ready.fields.name) in
    on_ok_weaker c.push_missing.result (λ w. w ∙ ap (λ z. string_bytes c.args.out.now ++ z) (sym missing)) c.push_missing.ensures.ok
