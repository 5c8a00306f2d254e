use Rattle.std.proofs.Common.{◌≡◌, [], ◌∷◌, sym, ap, ◌∙◌, subst, arith}
use Rattle.json.specs.Lex.{tokens}
use Rattle.json.specs.Token.{begin_object}
use Rattle.json.specs.Reads.{token_of}
use Rattle.jwt_text.specs.Reads.{ReadsMembers}
use Rattle.jwt_text.proofs.ObjectLemmas.{object_text}
use Rattle.jwt_text.proofs.read.object_in_text.Goals as goal

pub returns : goal.returns
returns c =
    let all : c.in_ok-reader.reader ≡ tokens c.args.text.now = grind arith in
    let front : c.in_ok-reader.reader ≡ token_of c.in_ok-next.field-0 ∷ c.next.new.self = grind arith in
    let first : tokens c.args.text.now ≡ begin_object ∷ c.next.new.self = sym all ∙ front ∙ ap (λ k. token_of k ∷ c.next.new.self) c.in-BeginObject.is in
    let end : c.read_members.new.reader ≡ [] = grind arith in
    let es = c.in_ok-entries.entries.items in
    object_text c.args.text.now c.utf8.text c.next.new.self c.in_ok-store.store c.read_members.new.store es first
    (subst (λ r. ReadsMembers 126 c.next.new.self r c.in_ok-store.store c.read_members.new.store es) end c.in_ok-entries.ensures)
