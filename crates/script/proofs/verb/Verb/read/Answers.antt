use Rattle.std.proofs.Common.{◌≡◌, codes, refl, arith}
use Rattle.std.proofs.lemmas.Slice.Eq.{text_from_reads}
use Rattle.script.proofs.verb.Verb.read.Goals as goal

-- the longest word: its six bytes are too many for the search
pub returns-in-remove : goal.returns-in-remove
returns-in-remove c =
    let e : c.args.word.now ≡ codes "remove" = text_from_reads c.args.word.now (codes "remove") (omega arith) (omega arith, (omega arith, (omega arith, (omega arith, (omega arith, (omega arith, tt)))))) in
    rw e refl
