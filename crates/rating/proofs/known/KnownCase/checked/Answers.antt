-- What the tests of the fields let pass is sound.
use Rattle.rating.proofs.Own.{asks}
use Rattle.rating.proofs.Laws.Sound.{sound}
use Rattle.rating.proofs.known.KnownCase.checked.Goals as goal

pub invariant_of-result : goal.invariant_of-result
invariant_of-result c =
    let none_given = c.in_ok-check_fields.ensures in
    record {
      has = c.args.self.has;
      none_given = none_given;
      sound = sound c.args.self.x none_given;
      alternates_is = (asks c.args.self.has c.rules-rules.ensures).alternates;
      eddies_is = (asks c.args.self.has c.rules-rules.ensures).eddies;
    }
