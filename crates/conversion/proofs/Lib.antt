mod RuleC
