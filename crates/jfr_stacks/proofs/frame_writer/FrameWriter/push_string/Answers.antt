use Rattle.std.proofs.Common.{◌++◌, [], ap, codes, string_bytes, sym, ◌∙◌}
use Rattle.std.proofs.lemmas.Result.{on_ok_weaker}
use Rattle.jfr_value.specs.Nodes.{node_of}
use Rattle.jfr_stacks.proofs.RoleLaws.{name_found, name_missing}
use Rattle.jfr_stacks.proofs.frame_writer.FrameWriter.push_string.Goals as goal

pub returns-in-Some : goal.returns-in-Some
returns-in-Some c =
    let p = c.args.chunk.now in
    let n = node_of c.args.name.now in
    let found = name_found p n (node_of c.in-Some.string) (codes "string") [] (c.in-Some.ensures.exact (codes "string") c.requires.ready.fields.string) in
    record { ok = on_ok_weaker c.push_text.result (λ w. w ∙ ap (λ z. string_bytes c.args.out.now ++ z) (sym found)) c.push_text.ensures.ok }

pub returns-in-None : goal.returns-in-None
returns-in-None c =
    let p = c.args.chunk.now in
    let missing = name_missing p (node_of c.args.name.now) (codes "string") [] (c.in-None.ensures.exact (codes "string") c.requires.ready.fields.string) in
    record { ok = on_ok_weaker c.push_missing.result (λ w. w ∙ ap (λ z. string_bytes c.args.out.now ++ z) (sym missing)) c.push_missing.ensures.ok }
