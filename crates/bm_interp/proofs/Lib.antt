mod Conditions
