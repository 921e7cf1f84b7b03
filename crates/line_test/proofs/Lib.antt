mod Duplicates
