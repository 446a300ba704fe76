use Rattle.std.proofs.Common.{◌≡◌, [], length, rules, of_calls}
use Rattle.hash.specs.Meaning.{four}
use Rattle.hash.specs.declared.ByteOrder.TheVariants.{LowFirst, HighFirst}
use Rattle.hash.proofs.Made.{mapped}
use Rattle.hash.proofs.ByteOrder.chain_to_bytes.Goals as goal

pub returns-in-LowFirst : goal.returns-in-LowFirst
returns-in-LowFirst c =
    let long : length c.args.chain.now ≡ 8 = search rules in
    rw c.in-LowFirst.is (mapped c.map.ensures.items long (four LowFirst) 0 [] (λ x y q k. (search (rules, of_calls), search (rules, of_calls))))

pub returns-in-HighFirst : goal.returns-in-HighFirst
returns-in-HighFirst c =
    let long : length c.args.chain.now ≡ 8 = search rules in
    rw c.in-HighFirst.is (mapped c.map-in-HighFirst.ensures.items long (four HighFirst) 0 [] (λ x y q k. (search (rules, of_calls), search (rules, of_calls))))
