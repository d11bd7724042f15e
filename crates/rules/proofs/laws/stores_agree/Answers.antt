-- The laws, one by one.
use Rattle.rules.proofs.LawsProperties.{same_adds, same_erases, kept_by_adds, kept_by_erases, gone_by_erases}
use Rattle.rules.proofs.LawsProperties.{skipped_by_erases, lawful_fresh, lawful_by_adds, lawful_by_erases}
use Rattle.rules.proofs.laws.stores_agree.Goals as goal

pub returns : goal.returns
returns c =
    record {
      same_adds = same_adds;
      same_erases = same_erases;
      kept_by_adds = kept_by_adds;
      kept_by_erases = kept_by_erases;
      gone_by_erases = gone_by_erases;
      skipped_by_erases = skipped_by_erases;
      lawful_fresh = lawful_fresh;
      lawful_by_adds = lawful_by_adds;
      lawful_by_erases = lawful_by_erases;
    }
