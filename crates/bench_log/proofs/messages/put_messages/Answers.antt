use Rattle.codec.specs.Blocks.{capabilities, configurations}
use Rattle.bench_log.proofs.MessagePairs.{put_ids, sections_ready, put_sectioned, put_plain}
use Rattle.std.proofs.Common.{sym, ◌∙◌, arith}
use Rattle.bench_log.proofs.messages.put_messages.Goals as goal

pub returns-then-id-other : goal.returns-then-id-other
returns-then-id-other c =
    let l = c.args.left.now in
    let r = c.args.right.now in
    let p = rw (c.of_record-heading.ensures.0, c.of_record-heading.ensures.1) at c.put_numbers.ensures in
    put_ids _ l.message.now l.places r.message.now r.places (λ e. omega (arith, c.id-id.ensures, c.id-other.ensures, e)) (c.from.ensures ∙ c.id-id.ensures)
    (c.from-then-id-other.ensures ∙ c.id-other.ensures) (p.text, p.limit)

pub put_sections-requires : goal.put_sections-requires
put_sections-requires c =
    rw (c.args.left.now.without_reserved, c.args.right.now.without_reserved) (sections_ready c.requires (omega (arith, c.id-id.ensures, c.id-other.ensures)) capabilities (sym c.id-id.ensures ∙ c.in-1.is) (omega (arith, c.requires.room, c.put_presences-next.ensures.1, c.put_presences-next.ensures.0.same)))

pub returns-in-1 : goal.returns-in-1
returns-in-1 c =
    put_sectioned c.requires (omega (arith, c.id-id.ensures, c.id-other.ensures)) _ capabilities (sym c.id-id.ensures ∙ c.in-1.is) c.args.left.now.without_reserved c.args.right.now.without_reserved c.put_presences-next.ensures c.put_sections.ensures

pub put_sections-requires-in-2 : goal.put_sections-requires-in-2
put_sections-requires-in-2 c =
    rw (c.args.left.now.without_reserved, c.args.right.now.without_reserved) (sections_ready c.requires (omega (arith, c.id-id.ensures, c.id-other.ensures)) configurations (sym c.id-id.ensures ∙ c.in-2.is) (omega (arith, c.requires.room, c.put_presences-next.ensures.1, c.put_presences-next.ensures.0.same)))

pub returns-in-2 : goal.returns-in-2
returns-in-2 c =
    put_sectioned c.requires (omega (arith, c.id-id.ensures, c.id-other.ensures)) _ configurations (sym c.id-id.ensures ∙ c.in-2.is) c.args.left.now.without_reserved c.args.right.now.without_reserved c.put_presences-next.ensures c.put_sections-in-2.ensures

pub returns-in_default : goal.returns-in_default
returns-in_default c =
    put_plain c.requires (omega (arith, c.id-id.ensures, c.id-other.ensures)) _ (λ e. omega (arith, c.id-id.ensures, e)) (λ e. omega (arith, c.id-id.ensures, e)) c.args.left.now.without_reserved c.args.right.now.without_reserved c.put_presences-next.ensures
